use Rattle.std.proofs.Common.{◌≡◌, List, map, Some, sym, subst}
use Rattle.std.specs.Prelude.{slice_get}
use Rattle.run_model.specs.Machine.Items.{CollectMark}
use Rattle.task_region.specs.DeferredItems.{item_of}
use Rattle.task_region.specs.TaskStops.{IsNextFor}
use Rattle.task_region.specs.TaskViews.{TaskView, view_of_task}
use Rattle.task_region.specs.declared.deferred.DeferredItem.{DeferredItem}
use Rattle.task_region.specs.declared.running.TaskStop.TheVariants.{Collect}
use Rattle.task_region.proofs.ResultLemmas.{result_fits}
use Rattle.task_region.proofs.task.TaskRegion.into_result.Goals as goal

pub copy_in-requires : goal.copy_in-requires
copy_in-requires c =
    let s = c.self.inside in
    let t = view_of_task s.region s.start s.next in
    let next = subst (λ (x : TaskView). IsNextFor (Collect c.args.number) x) (sym c.self.view_is) c.requires in
    let template = c.template_at-template.result.now in
    let at = c.template_at-template.ensures in
    let there = subst (λ (xs : List DeferredItem). slice_get (map item_of xs) c.args.number ≡ Some (CollectMark template at.0)) c.deref.ensures.value at.1 in
    result_fits t c.args.number c.self.invariant next template at.0 there
