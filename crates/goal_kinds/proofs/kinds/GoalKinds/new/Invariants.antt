use Rattle.goal_kinds.specs.Kinds.{AreFirstKinds, AreKindsFor}
use Rattle.goal_kinds.proofs.kinds.GoalKinds.new.Given as goal

abbrev pub invariant-loop-at : goal.invariant-loop-at
invariant-loop-at l = AreFirstKinds l.names.items l.first.items × AreKindsFor l.names.items l.known
