use Rattle.std.proofs.Common.{List}
use Rattle.tree_model.specs.Levels.{Level}
use Rattle.branch_shapes.specs.Groups.{Groups}
use Rattle.task_publishing.specs.KeptScopes.{AreNodesDown, AreGroupsOf, all_scopes}
use Rattle.task_publishing.proofs.ScopeLemmas.{KeepsScopes}
use Rattle.task_publishing.proofs.scopes.scopes_kept.Given as goal

abbrev pub invariant-loop-choice : goal.invariant-loop-choice
invariant-loop-choice l = record {
  kept : (levels : List Level) (gs : Groups) → AreNodesDown levels l.branch → AreGroupsOf l.choices gs
      → KeepsScopes l.next levels gs l.choice-index (all_scopes l.branch l.own.items) l.newest l.number;
}
