use Rattle.std.proofs.Common.{◌∷◌, subst}
use Rattle.cell_store.specs.StoreView.{IsDereferenced}
use Rattle.cell_store.proofs.StoreLemmas.{parts}
use Rattle.cell_store.proofs.DereferenceLemmas.{followed}
use Rattle.cell_store.proofs.store.Store.dereference.Goals as goal

pub returns-in-Var : goal.returns-in-Var
returns-in-Var c =
    subst (λ st. IsDereferenced st c.args.value c.follow.result) c.self.view_is
    (followed (parts c.self.inside.heap c.self.inside.cells c.self.inside.trail.items (c.self.inside.marks.floor ∷ c.self.inside.marks.marks)) c.self.invariant c.args.value c.follow.result c.in-Var.variable c.in-Var.is c.follow.ensures.end c.follow.ensures.stored c.follow.ensures.same)
