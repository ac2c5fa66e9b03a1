use Rattle.std.proofs.Common.{[], ◌∷◌}
use Rattle.cell_store.proofs.InTurnLemmas.{IsSolvingInTurn}
use Rattle.cell_store.proofs.unify.solve_arguments.Given as goal

abbrev pub invariant-loop-open : goal.invariant-loop-open
invariant-loop-open l = IsSolvingInTurn l.fn.equations l.fn.store l.store l.fresh ((record { left = record { at = l.at; base = l.base; count = l.count }; right = record { at = l.to; base = l.on; count = l.others } }) ∷ [])

abbrev pub decreases-loop-open : goal.decreases-loop-open
decreases-loop-open l = l.count
