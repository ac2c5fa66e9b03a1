use Rattle.std.proofs.Common.{◌∷◌, reverse}
use Rattle.cell_store.specs.UnificationSteps.{equations_left}
use Rattle.cell_store.proofs.SolvingLemmas.{IsSolving, solving_work}
use Rattle.cell_store.proofs.solve.solve.Given as goal

abbrev pub invariant-loop-pending : goal.invariant-loop-pending
invariant-loop-pending l =
    IsSolving (equations_left l.fn.store (l.fn.first ∷ reverse l.fn.pending.items)) l.fn.store l.store l.fresh (l.open ∷ reverse l.pending.items)

abbrev pub decreases-loop-pending : goal.decreases-loop-pending
decreases-loop-pending l = solving_work (equations_left l.fn.store (l.fn.first ∷ reverse l.fn.pending.items)) l.store (l.open ∷ reverse l.pending.items)
