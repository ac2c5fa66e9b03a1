use Rattle.std.proofs.Common.{◌∙◌, sym, ap, subst}
use Rattle.cell_store.specs.StoreView.{meaning}
use Rattle.cell_store.specs.Arguments.{AreInside}
use Rattle.cell_store.proofs.occurs.look_at.Goals as goal

pub returns-in-Compound : goal.returns-in-Compound
returns-in-Compound c =
    let st = c.args.store.now in
    subst (λ t. AreInside st c.args.variable t c.opened.result) (ap (meaning st) (sym c.in-Compound.is) ∙ c.dereference.ensures.same) (c.opened.ensures c.args.variable)
