use Rattle.std.proofs.Common.{sym, subst}
use Rattle.tree_model.specs.Legality.{is_ready}
use Rattle.tree_nodes.specs.Held.{is_waiting, AreHeldIn}
use Rattle.tree_nodes.proofs.HeldLemmas.{pushed_count}
use Rattle.tree_nodes.proofs.table.Table.push.Goals as goal

pub invariant_of-self-2 : goal.invariant_of-self-2
invariant_of-self-2 c =
    let rows = c.self.inside.slots.items in
    let held = c.self.inside.held in
    let k = c.held-held.ensures in
    subst (AreHeldIn c.with-self-inside.result) (sym c.in_ok-push.ensures.items) (record {
      ready = pushed_count is_ready rows c.args.slot held.ready c.held-held.result.ready c.with-self-inside.result.ready c.self.invariant.ready k.ready
          c.with-self-inside.ensures.ready;
      waiting = pushed_count is_waiting rows c.args.slot held.waiting c.held-held.result.waiting c.with-self-inside.result.waiting c.self.invariant.waiting
          k.waiting c.with-self-inside.ensures.waiting;
    })
