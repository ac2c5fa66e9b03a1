use Rattle.std.proofs.Common.{◌-◌, ◌≤◌, length}
use Rattle.std_builtins.specs.Agreements.{AgreeFor}
use Rattle.std_builtins.proofs.agreement.agreement_at.Given as goal

abbrev pub invariant-loop-at : goal.invariant-loop-at
invariant-loop-at l = record {
  agree : AgreeFor l.text l.place (l.at - l.place);
  begun : l.place ≤ l.at;
  within : l.at ≤ length l.text;
}
