use Rattle.std.proofs.Common.{[], ◌∷◌}
use Rattle.cell_store.specs.FreshVariables.{StaysOlder}
use Rattle.cell_store.specs.UnificationSteps.{equations_left}
use Rattle.cell_store.proofs.SolvingLemmas.{IsSolving, solving_work}
use Rattle.cell_store.proofs.unify.solve_inside.Given as goal

abbrev pub invariant-loop-next : goal.invariant-loop-next
invariant-loop-next l = IsSolving (equations_left l.fn.store (l.fn.equations ∷ [])) l.fn.store l.store l.fresh ((record { left = record { at = l.at; base = l.base; count = l.count }; right = record { at = l.to; base = l.on; count = l.others } }) ∷ []) × StaysOlder l.fn.store l.store l.fn.fresh l.fresh

abbrev pub decreases-loop-next : goal.decreases-loop-next
decreases-loop-next l = solving_work (equations_left l.fn.store (l.fn.equations ∷ [])) l.store ((record { left = record { at = l.at; base = l.base; count = l.count }; right = record { at = l.to; base = l.on; count = l.others } }) ∷ [])
