use Rattle.std.proofs.Common.{◌≡◌, ◌+◌, ◌∷◌, ◌++◌, [], List, take, sym, ap, ◌∙◌, subst}
use Rattle.std.proofs.lemmas.List.{take_all}
use Rattle.std.specs.Arc.{arc_value}
use Rattle.std.specs.Global.{Global}
use Rattle.std.specs.declared.sync.Arc.{Arc}
use Rattle.tree_model.specs.EventViews.{place_view}
use Rattle.tree_nodes.specs.Bodies.{IsWhole, body_view}
use Rattle.tree_nodes.specs.TreeTables.{NodesView}
use Rattle.public_tree.specs.Publishing.{bodies_view, AddsBelow, AddsSome}
use Rattle.tree_nodes.proofs.SomeLemmas.{on_err}
use Rattle.tree_nodes.proofs.StayingLemmas.{made_then}
use Rattle.public_tree.proofs.AddedLemmas.{GoesOn, added_so_far, goes_on, ready_open, ready_below}
use Rattle.public_tree.proofs.BodyLemmas.{whole_at, next_bodies}
use Rattle.public_tree.proofs.publishing.add_nodes.Goals as goal
use Rattle.tree_nodes.specs.declared.body.NodeBody.{NodeBody}

pub returns-in_err-clone-clause-some : goal.returns-in_err-clone-clause-some
returns-in_err-clone-clause-some c =
    let a = place_view c.args.at in
    let done = bodies_view (take c.loop-body.body-index c.args.bodies.now) in
    on_err c.from_residual.result (AddsSome c.args.nodes.now c.loop-body.nodes a)
    (done, added_so_far c.args.nodes.now c.loop-body.nodes a (place_view c.loop-body.at) done c.loop-body.invariant.ready c.loop-body.invariant.more)

pub add-requires-clause-whole : goal.add-requires-clause-whole
add-requires-clause-whole c =
    let x = c.body-item.result in
    let same : arc_value c.in_ok-clone.field-0 ≡ arc_value x = c.in_ok-clone.ensures.cases in
    subst (λ (b : NodeBody). IsWhole (body_view b)) (sym same)
    (whole_at c.args.bodies.now c.loop-body.body-index x c.requires.whole c.loop-body-test.true c.body-item.is)

pub returns-in_err-node-clause-some : goal.returns-in_err-node-clause-some
returns-in_err-node-clause-some c =
    let a = place_view c.args.at in
    let done = bodies_view (take c.loop-body.body-index c.args.bodies.now) in
    on_err c.from_residual-in_err-node.result (AddsSome c.args.nodes.now c.add.new.self a) (
      done,
      subst (λ (n : NodesView). AddsBelow c.args.nodes.now n a done) (sym c.in_err-node.ensures.err)
          (added_so_far c.args.nodes.now c.loop-body.nodes a (place_view c.loop-body.at) done c.loop-body.invariant.ready c.loop-body.invariant.more),
    )

pub loop-body-preserved : goal.loop-body-preserved
loop-body-preserved c =
    let now = c.loop-body.nodes in
    let more = c.add.new.self in
    let a = place_view c.args.at in
    let p = place_view c.loop-body.at in
    let i = c.loop-body.body-index in
    let items = c.args.bodies.now in
    let x = c.body-item.result in
    let done = bodies_view (take i items) in
    let body = body_view (arc_value c.in_ok-clone.field-0) in
    let same : arc_value c.in_ok-clone.field-0 ≡ arc_value x = c.in_ok-clone.ensures.cases in
    let whole : IsWhole body = subst (λ (b : NodeBody). IsWhole (body_view b)) (sym same) (whole_at items i x c.requires.whole c.loop-body-test.true c.body-item.is) in
    let e = c.in_ok-node.ensures in
    let steps : GoesOn c.args.nodes.now more a (record { node = c.in_ok-node.node; index = 0 }) (done ++ body ∷ [])
    = goes_on c.args.nodes.now now more a p done body c.in_ok-node.node e.added whole e.number e.grown.length c.loop-body.invariant.more in
    let bodies : bodies_view (take (i + 1) items) ≡ done ++ body ∷ []
    = next_bodies items i x c.loop-body-test.true c.body-item.is ∙ ap (λ (b : NodeBody). done ++ body_view b ∷ []) (sym same) in
    record {
      ready = ready_below now more p c.in_ok-node.node body e.added whole e.number e.grown.length c.live-live.ensures.sound (ready_open now.rows p c.loop-body.invariant.ready);
      more = subst (GoesOn c.args.nodes.now more a (record { node = c.in_ok-node.node; index = 0 })) (sym bodies) steps;
      made = made_then c.args.nodes.now.rows now.rows more.rows c.loop-body.invariant.made e.made;
    }

pub returns-clause-added : goal.returns-clause-added
returns-clause-added c =
    let a = place_view c.args.at in
    let done = take c.loop-body.body-index c.args.bodies.now in
    let all : done ≡ c.args.bodies.now = take_all c.loop-body.body-index c.args.bodies.now c.loop-body-test.false in
    subst (λ (items : List (Arc NodeBody Global)). AddsBelow c.args.nodes.now c.loop-body.nodes a (bodies_view items)) all
    (added_so_far c.args.nodes.now c.loop-body.nodes a (place_view c.loop-body.at) (bodies_view done) c.loop-body.invariant.ready c.loop-body.invariant.more)

pub returns-in_err-node-clause-stay : goal.returns-in_err-node-clause-stay
returns-in_err-node-clause-stay c =
    made_then c.args.nodes.now.rows c.loop-body.nodes.rows c.add.new.self.rows c.loop-body.invariant.made c.in_err-node.ensures.made
