use Rattle.std.proofs.Common.{◌≡◌, ◌+◌, length, sym, ◌∙◌, arith, subst}
use Rattle.tree_model.specs.EventViews.{place_view}
use Rattle.tree_model.specs.Nodes.{Ready}
use Rattle.tree_nodes.specs.Changes.{AreGone}
use Rattle.tree_nodes.specs.Rows.{PendingCell, cell_at}
use Rattle.tree_nodes.specs.TreeTables.{Stand}
use Rattle.tree_nodes.proofs.PutLemmas.{is_some_cell, sets_stand}
use Rattle.tree_nodes.proofs.StayingLemmas.{made_then, made_back}
use Rattle.public_tree.specs.Publishing.{bodies_view, IsReadyAt}
use Rattle.public_tree.proofs.MakeLemmas.{set_there, makes_nodes, nodes_there, are_gone, same_with}
use Rattle.public_tree.proofs.publishing.make_nodes.Goals as goal

pub add_nodes-requires-clause-ready : goal.add_nodes-requires-clause-ready
add_nodes-requires-clause-ready c =
    set_there c.args.nodes.now c.set.new.self (place_view c.args.at) c.in-Some.total Ready c.set.ensures.set c.live-live.ensures.sound c.requires.there

pub take_back-requires : goal.take_back-requires
take_back-requires c =
    let old = c.args.nodes.now in
    let ready = c.set.new.self in
    let a = place_view c.args.at in
    let cell = is_some_cell (cell_at old.rows a) c.requires.there in
    let st : Stand ready = sets_stand old ready a c.in-Some.total (PendingCell Ready) cell.0.1 cell.0.0 c.live-live.ensures.sound cell.1 c.set.ensures.set in
    let is : IsReadyAt ready.rows a = set_there old ready a c.in-Some.total Ready c.set.ensures.set c.live-live.ensures.sound c.requires.there in
    nodes_there ready c.add_nodes.new.nodes a c.in-Err.ensures.some.0 st is c.in-Err.ensures.some.1

pub give_back-requires : goal.give_back-requires
give_back-requires c =
    let old = c.args.nodes.now in
    let ready = c.set.new.self in
    let back = c.take_back.new.self in
    let a = place_view c.args.at in
    let cell = is_some_cell (cell_at old.rows a) c.requires.there in
    let st : Stand ready = sets_stand old ready a c.in-Some.total (PendingCell Ready) cell.0.1 cell.0.0 c.live-live.ensures.sound cell.1 c.set.ensures.set in
    let is : IsReadyAt ready.rows a = set_there old ready a c.in-Some.total Ready c.set.ensures.set c.live-live.ensures.sound c.requires.there in
    let drawn : c.drawn-drawn.result ≡ length ready.rows = c.drawn-drawn.ensures ∙ sym c.set.ensures.numbers.length in
    subst (AreGone back.rows) (sym drawn)
    (are_gone ready c.add_nodes.new.nodes back a c.args.worker c.spent-spent.result c.in-Err.ensures.some.0 st is c.in-Err.ensures.some.1 c.take_back.ensures.entry)

pub returns-in-Ok-clause-made : goal.returns-in-Ok-clause-made
returns-in-Ok-clause-made c =
    let sum : c.in-Some.total ≡ c.spent-spent.result + c.args.inferences = c.in-Some.ensures.1 in
    makes_nodes c.args.nodes.now c.set.new.self c.add_nodes.new.nodes (place_view c.args.at) c.spent-spent.result c.args.inferences c.in-Some.total (bodies_view c.args.bodies.now)
    c.spent-spent.ensures sum c.set.ensures.set c.set.ensures.numbers.length c.in-Ok.ensures.added

pub returns-in-Err-clause-err : goal.returns-in-Err-clause-err
returns-in-Err-clause-err c =
    same_with c.args.nodes.now c.set.new.self c.add_nodes.new.nodes c.take_back.new.self c.give_back.new.self (place_view c.args.at) c.args.worker c.spent-spent.result c.in-Some.total
    c.drawn-drawn.result c.in-Err.ensures.some.0 c.spent-spent.ensures c.set.ensures.set c.set.ensures.numbers.length c.in-Err.ensures.some.1 c.take_back.ensures.entry
    c.take_back.ensures.numbers.length c.drawn-drawn.ensures c.give_back.ensures.given

pub returns-in-Ok-clause-stay : goal.returns-in-Ok-clause-stay
returns-in-Ok-clause-stay c = made_then c.args.nodes.now.rows c.set.new.self.rows c.add_nodes.new.nodes.rows c.set.ensures.made c.in-Ok.ensures.stay

-- the numbers that were drawn since are given back
pub returns-in-Err-clause-stay : goal.returns-in-Err-clause-stay
returns-in-Err-clause-stay c =
    let old = c.args.nodes.now in
    let added = c.add_nodes.new.nodes in
    let back = c.take_back.new.self in
    let made = made_then old.rows added.rows back.rows (made_then old.rows c.set.new.self.rows added.rows c.set.ensures.made c.in-Err.ensures.stay) c.take_back.ensures.made in
    let given = c.give_back.ensures.given.length in
    let drawn = c.drawn-drawn.ensures in
    let longer = made.longer in
    made_back old.rows back.rows c.give_back.new.self.rows made c.give_back.ensures.made (omega (arith, given, drawn, longer))
