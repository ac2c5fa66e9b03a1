use Rattle.region_capture.proofs.PositionLemmas.{next_there, next_items}
use Rattle.region_capture.proofs.positions.items_left.Goals as goal

pub loop-item-preserved-in-First : goal.loop-item-preserved-in-First
loop-item-preserved-in-First c =
    let r = c.args.region.now in
    let p = c.loop-item.position in
    record {
      position = next_there r p c.in-First.item c.in-First.cut c.in-First.ensures c.in-Some.at c.in-Some.ensures.1;
      items = next_items r p c.in-First.item c.in-First.cut c.in-First.ensures c.in-Some.at c.in-Some.ensures.1 c.loop-item.items.items c.push.new.self.items c.in_ok-written_item-in-First.field-0 _ c.in_ok-push-in-First.ensures.items c.in_ok-written_item-in-First.ensures c.loop-item.invariant.items;
    }
