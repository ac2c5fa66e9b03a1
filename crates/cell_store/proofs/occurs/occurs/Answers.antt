use Rattle.cell_store.proofs.occurs.occurs.Goals as goal

pub look_along-requires : goal.look_along-requires
look_along-requires c = (c.opened.ensures c.args.variable).there
