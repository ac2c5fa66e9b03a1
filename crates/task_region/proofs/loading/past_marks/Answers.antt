use Rattle.std.proofs.Common.{map}
use Rattle.task_region.specs.DeferredItems.{item_of}
use Rattle.task_region.specs.declared.deferred.DeferredItem.TheVariants.{CatchEnd}
use Rattle.task_region.proofs.FoundLemmas.{item_found, marks_further}
use Rattle.task_region.proofs.loading.past_marks.Goals as goal

pub loop-item-preserved : goal.loop-item-preserved
loop-item-preserved c =
    let h = c.in-Some.ensures.lookup in
    let there = item_found c.args.deferred.now c.loop-item.at c.in-Some.item.now (CatchEnd c.in-CatchEnd.field-0) h.3.0 h.1 c.in-CatchEnd.is in
    marks_further (map item_of c.args.deferred.now) c.args.number c.loop-item.at c.loop-item.invariant.0 c.loop-item.invariant.1 (c.in-CatchEnd.field-0, there)
