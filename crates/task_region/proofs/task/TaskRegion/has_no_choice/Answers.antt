use Rattle.std.proofs.Common.{refl, sym, subst}
use Rattle.std.specs.Prelude.{◌==◌, IsSome, IsTrue, ◌↔◌}
use Rattle.task_region.specs.TaskResults.{HasNoChoice}
use Rattle.task_region.specs.TaskViews.{TaskView, view_of_task}
use Rattle.task_region.proofs.ResultLemmas.{counts_tell, run_there}
use Rattle.task_region.proofs.task.TaskRegion.has_no_choice.Goals as goal

pub returns : goal.returns
returns c =
    let s = c.self.inside in
    let t = view_of_task s.region s.start s.next in
    let next = subst (λ (x : TaskView). IsSome x.next) (sym c.self.view_is) c.requires in
    subst (λ (x : TaskView). IsTrue (c.height.result == s.start.floor) ↔ HasNoChoice x) c.self.view_is
    (counts_tell t (run_there t c.self.invariant next) next c.ends_are_oldest.ensures.ends c.ends_are_oldest.ensures.marks c.height.result s.start.floor
    c.height.ensures refl)
