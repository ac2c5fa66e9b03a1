use Rattle.std.proofs.Common.{◌≡◌, ◌≤◌, ◌++◌, drop, length}
use Rattle.clause_compile.specs.CompiledClauses.{goal_items}
use Rattle.clause_compile.specs.declared.item.Scope.TheVariants.{Node}
use Rattle.front_goals.specs.SolutionBranches.{clause_removal}
use Rattle.front_goals.proofs.goals.solution_goals.Given as goal

abbrev pub invariant-loop-left : goal.invariant-loop-left
invariant-loop-left l = record {
  within : l.left ≤ length l.given;
  are : l.goals ≡ goal_items (Node l.node) (drop l.left l.given) ++ (clause_removal l.fn.solution.removes ++ l.fn.follows);
}

abbrev pub decreases-loop-left : goal.decreases-loop-left
decreases-loop-left l = l.left
