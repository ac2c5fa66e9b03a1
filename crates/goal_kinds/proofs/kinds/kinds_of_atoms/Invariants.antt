use Rattle.std.proofs.Common.{◌≡◌, length}
use Rattle.goal_kinds.specs.Kinds.{AreFirstKinds}
use Rattle.goal_kinds.proofs.kinds.kinds_of_atoms.Given as goal

abbrev pub invariant-loop-number : goal.invariant-loop-number
invariant-loop-number l = (length l.kinds.items ≡ l.number) × AreFirstKinds l.names l.kinds.items
