use Rattle.std.proofs.Common.{subst, arith}
use Rattle.std.specs.Arc.{arc_value}
use Rattle.region_split.specs.Texts.{TextView}
use Rattle.tree_model.specs.EventViews.{place_view}
use Rattle.task_region.specs.KeptRegions.{IsOnWay}
use Rattle.task_region.specs.TaskLoads.{LoadsTask}
use Rattle.task_world.specs.OutTasks.{IsOutThere}
use Rattle.scheduler.proofs.TaskLemmas.{runs_under}
use Rattle.scheduler.proofs.running.run_once.Goals as goal

pub run_on-requires : goal.run_on-requires
run_on-requires g c =
    let v = c.args.tree.now in
    let a = place_view c.args.at in
    let text = arc_value c.in_ok-text.text in
    let out = subst (IsOutThere v c.args.worker a text) c.in-Task.is c.in_ok-ball.ensures in
    let least = c.min.ensures in
    let some = c.requires.some in
    runs_under v a (arc_value c.args.run.now.text) c.in-Task.loaded.task c.run.new.self c.min.result c.in_ok-ran-in-Task.ran c.requires.run.clauses
    (subst (λ (t : TextView). LoadsTask v.nodes a t c.in-Task.loaded.task) c.in_ok-text.ensures.cases out.0) c.in-Task.loaded.numbers
    (subst (λ (t : TextView). IsOnWay v.nodes.rows a t c.in-Task.loaded.numbers.items c.in-Task.loaded.task) c.in_ok-text.ensures.cases out.1) c.in_ok-ran-in-Task.ensures
    c.tasks_stop_for_causes.ensures.loaded c.tasks_stop_at_front.ensures c.tasks_stop_on_runs.ensures.stay c.kept_regions_stay.ensures.run c.args.run.now.kinds c.args.limit
    c.requires.run.kinds (grind (arith, least, some)) (grind (arith, least))
