use Rattle.std.proofs.Common.{◌≡◌, ◌∷◌, reverse}
use Rattle.run_model.specs.Goals.StandardOrder.{order}
use Rattle.cell_store.specs.StoreView.{meaning, text_in}
use Rattle.cell_store.specs.UnificationSteps.{AllEquations}
use Rattle.value_goals.specs.Comparison.{order_of_all, size_of_all}
use Rattle.value_goals.proofs.comparison.compare.Given as goal

abbrev pub invariant-loop-deeper : goal.invariant-loop-deeper
invariant-loop-deeper l = record {
  same : order_of_all l.store (l.inside ∷ reverse l.pending.items) ≡ order (meaning l.store l.fn.left) (meaning l.store l.fn.right);
  there : AllEquations (text_in l.store) l.store.now.next (l.inside ∷ reverse l.pending.items);
}

abbrev pub decreases-loop-deeper : goal.decreases-loop-deeper
decreases-loop-deeper l = size_of_all l.store (l.inside ∷ reverse l.pending.items)
