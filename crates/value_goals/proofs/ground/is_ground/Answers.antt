use Rattle.cell_store.specs.StoreView.{text_in}
use Rattle.cell_store.proofs.WalkLemmas.{first_there, top_there}
use Rattle.value_goals.proofs.ground.is_ground.Goals as goal

pub argument-value-requires : goal.argument-value-requires
argument-value-requires c =
    let st = c.args.store.now in
    first_there (text_in st) st.now.next c.in-Some.arguments (top_there (text_in st) st.now.next c.loop-arguments.pending.items c.pop.new.self.items c.in-Some.arguments c.in-Some.ensures.items c.loop-arguments.invariant.there).0
