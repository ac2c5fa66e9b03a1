use Rattle.task_region.specs.declared.deferred.DeferredItem.TheVariants.{Collect}
use Rattle.task_region.proofs.FoundLemmas.{item_found}
use Rattle.task_region.proofs.results.template_at.Goals as goal

pub returns : goal.returns
returns c =
    let at = c.in-Some-Collect in
    let h = c.in-Some-Collect.ensures.lookup in
    (at.field-0-1, item_found c.args.deferred.now c.args.number at.field-0.now (Collect at.template at.field-0-1) h.3.0 h.1 at.field-0-is)
