use Rattle.std.proofs.Common.{◌≡◌, ◌≤◌, ◌<◌, ℕ, length, get_or}
use Rattle.std_builtins.specs.Agreements.{IsAgreement, IsStretch}
use Rattle.std_builtins.proofs.agreement.agreements.Given as goal

abbrev pub invariant-loop-place : goal.invariant-loop-place
invariant-loop-place l = record {
  exact : (i : ℕ) → 1 ≤ i → i < l.place → IsAgreement l.text i (get_or l.found.items i 0);
  count : length l.found.items ≡ l.place;
  begun : 1 ≤ l.place;
  stretch : IsStretch l.text l.place l.stretch;
}
