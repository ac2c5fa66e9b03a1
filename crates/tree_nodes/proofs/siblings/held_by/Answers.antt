use Rattle.std.proofs.Common.{List, map, subst, take_all}
use Rattle.tree_model.specs.Legality.{is_ready}
use Rattle.tree_nodes.specs.declared.siblings.Alternative.{Alternative}
use Rattle.tree_nodes.specs.Siblings.{alternative_view}
use Rattle.tree_nodes.specs.Held.{is_waiting, AreHeldAmong}
use Rattle.tree_nodes.proofs.HeldLemmas.{more_held}
use Rattle.tree_nodes.proofs.siblings.held_by.Goals as goal

pub loop-alternative-preserved : goal.loop-alternative-preserved
loop-alternative-preserved c =
    let i = c.loop-alternative.alternative-index in
    let items = c.args.items.now in
    let x = c.alternative-item.result in
    let k = c.loop-alternative.invariant in
    record {
      ready = more_held is_ready items i x c.loop-alternative.held.ready c.of.result.ready c.with-held.result.ready c.loop-alternative-test.true c.alternative-item.is
          k.ready c.of.ensures.ready c.with-held.ensures.ready;
      waiting = more_held is_waiting items i x c.loop-alternative.held.waiting c.of.result.waiting c.with-held.result.waiting c.loop-alternative-test.true
          c.alternative-item.is k.waiting c.of.ensures.waiting c.with-held.ensures.waiting;
    }

pub returns : goal.returns
returns c = subst (λ (x : List Alternative). AreHeldAmong c.loop-alternative.held (map alternative_view x))
    (take_all c.loop-alternative.alternative-index c.args.items.now c.loop-alternative-test.false) c.loop-alternative.invariant
