use Rattle.std.proofs.Common.{refl}
use Rattle.cell_store.specs.StoreView.{compound_meaning}
use Rattle.cell_store.proofs.WalkLemmas.{inside}
use Rattle.cell_store.proofs.occurs.opened.Goals as goal

pub returns : goal.returns
returns c = λ x.
    let st = c.args.store.now in
    inside st x c.args.compound.0 c.args.compound.1 _ _ (compound_meaning st c.args.compound) c.arguments_of.result refl c.arguments_of.ensures (c.functor-name.ensures.functor c.args.compound.1 c.requires)
