use Rattle.std.proofs.Common.{◌-◌, sym, ap, subst, arith}
use Rattle.std.specs.Prelude.{IsSome}
use Rattle.task_region.specs.TaskCatches.{HasCatchesAlone}
use Rattle.task_region.specs.TaskViews.{TaskView, view_of_task}
use Rattle.task_region.proofs.CatchLemmas.{catches_alone, floor_within}
use Rattle.task_region.proofs.ResultLemmas.{run_there}
use Rattle.task_region.proofs.task.TaskRegion.catches_left.Goals as goal

pub overflow_sub-result : goal.overflow_sub-result
overflow_sub-result c =
    let s = c.self.inside in
    let t = view_of_task s.region s.start s.next in
    let next = subst (λ (x : TaskView). IsSome x.next) (sym c.self.view_is) c.requires in
    let within = floor_within t (run_there t c.self.invariant next) next c.ends_are_oldest.ensures.ends c.ends_are_oldest.ensures.marks in
    let height = c.height.ensures in
    omega (arith, within, height)

pub returns-in-None : goal.returns-in-None
returns-in-None c =
    let s = c.self.inside in
    let t = view_of_task s.region s.start s.next in
    let next = subst (λ (x : TaskView). IsSome x.next) (sym c.self.view_is) c.requires in
    let count = c.height.result - s.start.floor in
    subst (λ (x : TaskView). HasCatchesAlone x count) c.self.view_is
    (catches_alone t (run_there t c.self.invariant next) next c.ends_are_oldest.ensures.ends c.ends_are_oldest.ensures.marks c.in-None.ensures count
    (ap (λ n. n - s.start.floor) c.height.ensures))
