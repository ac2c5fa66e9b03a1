use Rattle.std.proofs.Common.{reverse}
use Rattle.cell_store.specs.StoreView.{text_in}
use Rattle.cell_store.specs.Arguments.{is_in_any}
use Rattle.cell_store.proofs.WalkLemmas.{first_there, search_goes_past, search_goes_inside}
use Rattle.cell_store.proofs.occurs.search.Goals as goal

pub look_at_first-requires : goal.look_at_first-requires
look_at_first-requires c =
    let st = c.args.store.now in
    first_there (text_in st) st.now.next c.loop-pending.open c.loop-pending.invariant.there.0

pub loop-pending-smaller-in-Some : goal.loop-pending-smaller-in-Some
loop-pending-smaller-in-Some c =
    let st = c.args.store.now in
    (search_goes_past st c.args.variable (is_in_any st c.args.variable c.args.arguments) c.loop-pending.open (reverse c.loop-pending.pending.items) c.loop-pending.invariant _ c.in-Some.ensures c.in-Past.ensures.searched).1

pub loop-pending-smaller : goal.loop-pending-smaller
loop-pending-smaller c =
    let st = c.args.store.now in
    (search_goes_inside st c.args.variable (is_in_any st c.args.variable c.args.arguments) c.loop-pending.open (reverse c.loop-pending.pending.items) c.loop-pending.invariant _ c.in_ok-push_rest-in-Inside.ensures c.in-Inside.inner c.in-Inside.ensures.searched).1

pub loop-pending-preserved : goal.loop-pending-preserved
loop-pending-preserved c =
    let st = c.args.store.now in
    (search_goes_inside st c.args.variable (is_in_any st c.args.variable c.args.arguments) c.loop-pending.open (reverse c.loop-pending.pending.items) c.loop-pending.invariant _ c.in_ok-push_rest-in-Inside.ensures c.in-Inside.inner c.in-Inside.ensures.searched).0
