use Rattle.std.proofs.Common.{◌∷◌, reverse}
use Rattle.cell_store.specs.Arguments.{is_in_any}
use Rattle.cell_store.proofs.WalkLemmas.{IsSearching, searching_work}
use Rattle.cell_store.proofs.occurs.search.Given as goal

abbrev pub invariant-loop-pending : goal.invariant-loop-pending
invariant-loop-pending l = IsSearching l.store l.variable (is_in_any l.store l.variable l.fn.arguments) (l.open ∷ reverse l.pending.items)

abbrev pub decreases-loop-pending : goal.decreases-loop-pending
decreases-loop-pending l = searching_work l.store (l.open ∷ reverse l.pending.items)
