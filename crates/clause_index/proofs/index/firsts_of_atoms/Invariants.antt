use Rattle.std.proofs.Common.{◌≡◌, length}
use Rattle.clause_index.specs.Chains.{AreNamedFirsts}
use Rattle.clause_index.proofs.index.firsts_of_atoms.Given as goal

abbrev pub invariant-loop-name : goal.invariant-loop-name
invariant-loop-name l = (length l.named.items ≡ l.name) × AreNamedFirsts l.firsts l.named.items
