use Rattle.std.proofs.Common.{◌≡◌, ◌≤◌, length}
use Rattle.std.specs.Arc.{arc_value}
use Rattle.clause_compile.proofs.CompiledClauseLemmas.{goals_from}
use Rattle.clause_compile.proofs.clause.goals_before.Given as goal

abbrev pub invariant-loop-left : goal.invariant-loop-left
invariant-loop-left l = record { within : l.left ≤ length l.places; are : l.goals ≡ goals_from (arc_value l.skeleton) l.base l.places l.cut l.fn.rest l.left }

abbrev pub decreases-loop-left : goal.decreases-loop-left
decreases-loop-left l = l.left
