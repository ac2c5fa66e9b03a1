use Rattle.std.proofs.Common.{◌≡◌, true, subst}
use Rattle.std.specs.Prelude.{is_some, IsSome}
use Rattle.tree_model.specs.EventViews.{place_view}
use Rattle.tree_nodes.specs.Rows.{cell_at}
use Rattle.task_region.specs.TaskStops.{LeavesNext}
use Rattle.task_region.specs.declared.running.TaskStop.{TaskStop}
use Rattle.branch_tests.proofs.task_bodies.bodies_after.Goals as goal

pub bodies_of_task-requires-clause-own : goal.bodies_of_task-requires-clause-own
bodies_of_task-requires-clause-own g c =
    let t = c.run.new.self in
    let nodes = c.args.nodes.now in
    let a = place_view c.args.at in
    let ran = c.in_ok-ran.ran in
    let stops
    = c.tasks_stop_on_runs.ensures.loaded nodes a _ c.in_ok-task.field-0.task t c.args.limit ran c.in_ok-task.ensures.loads c.in_ok-ran.ensures in
    let next : IsSome t.next = subst (λ (s : TaskStop). LeavesNext s t.next) c.in-Limit.is c.in_ok-ran.ensures.next in
    let there : is_some (cell_at nodes.rows a) ≡ true = cc in
    c.tasks_stop_on_runs.ensures.own nodes a _ ran.taken t c.live-live.ensures.sound there next stops
