use Rattle.std.specs.Prelude.{◌≡◌, ◌≤◌, [], IsSome}
use Rattle.tree_model.specs.EventViews.{place_view}
use Rattle.tree_nodes.specs.Rows.{cell_at, credit_view}
use Rattle.tree_nodes.specs.Folds.{FoldsTo, AreWithoutRecords}
use Rattle.tree_nodes.proofs.nodes.Nodes.folded.Given as goal

abbrev pub invariant-loop-gathered : goal.invariant-loop-gathered
invariant-loop-gathered l = record {
  there : IsSome (cell_at l.self.rows (place_view l.end));
  folds : FoldsTo l.self (place_view l.fn.at) (credit_view l.fn.credit) (place_view l.end) l.gathered;
  above : l.end.node ≤ l.fn.at.node;
  none : AreWithoutRecords l.self.rows → (credit_view l.fn.credit).records ≡ [] → l.gathered.records ≡ [];
}

abbrev pub decreases-loop-gathered : goal.decreases-loop-gathered
decreases-loop-gathered l = l.end.node
