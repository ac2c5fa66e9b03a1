use Rattle.std.proofs.Common.{◌≡◌, List, length}
use Rattle.clause_compile.specs.declared.item.Item.{Item as BranchItem}
use Rattle.task_publishing.specs.KeptScopes.{all_scopes, scope_at}
use Rattle.task_publishing.specs.BranchGoals.{AreTailsOf, AreGoalsOf}
use Rattle.task_publishing.proofs.goals.goals_by_number.Given as goal

abbrev pub invariant-loop-number : goal.invariant-loop-number
invariant-loop-number l = record {
  many : length l.goals.items ≡ l.number;
  each : (deferred : List BranchItem) → AreTailsOf deferred l.tails → AreGoalsOf l.items (scope_at (all_scopes l.branch l.own)) deferred l.goals.items;
}
