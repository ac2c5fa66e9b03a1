use Rattle.std.proofs.Common.{◌≡◌, length, take}
use Rattle.goal_kinds.proofs.kinds.names_of.Given as goal

abbrev pub invariant-loop-number : goal.invariant-loop-number
invariant-loop-number l = (l.count ≡ length l.code.names) × (l.names.items ≡ take l.number l.code.names)
