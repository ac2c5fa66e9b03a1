use Rattle.cell_store.specs.StoreView.{meaning}
use Rattle.cell_store.proofs.FreshLemmas.{first_older_than}
use Rattle.cell_store.proofs.store.Store.unify_head.Goals as goal

pub unify-requires-clause-older : goal.unify-requires-clause-older
unify-requires-clause-older c = first_older_than c.if_young-fresh.result c.args.base (meaning c.args.self.now c.args.goal) c.if_young-fresh.ensures.same c.requires.older
