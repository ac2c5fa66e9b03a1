use Rattle.std.proofs.Common.{◌∷◌, subst}
use Rattle.cell_store.specs.StoreView.{IsValidStore}
use Rattle.cell_store.proofs.StoreLemmas.{parts, is_valid}
use Rattle.cell_store.proofs.store.Store.next.Goals as goal

pub returns-clause-sound : goal.returns-clause-sound
returns-clause-sound c = subst IsValidStore c.self.view_is (is_valid (parts c.self.inside.heap c.self.inside.cells c.self.inside.trail.items (c.self.inside.marks.floor ∷ c.self.inside.marks.marks)) c.self.invariant)
