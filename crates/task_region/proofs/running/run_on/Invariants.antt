use Rattle.std.proofs.Common.{◌≤◌, ◌-◌, Some}
use Rattle.task_region.specs.TaskViews.{view_of_task}
use Rattle.task_region.proofs.RunningLemmas.{IsRunning}
use Rattle.task_region.proofs.running.run_on.Given as goal

abbrev pub invariant-loop-count : goal.invariant-loop-count
invariant-loop-count l = IsRunning (view_of_task l.fn.region l.fn.task (Some l.fn.start)) (view_of_task l.region l.fn.task l.next) l.count × (l.count ≤ l.fn.limit)

abbrev pub decreases-loop-count : goal.decreases-loop-count
decreases-loop-count l = l.fn.limit - l.count
