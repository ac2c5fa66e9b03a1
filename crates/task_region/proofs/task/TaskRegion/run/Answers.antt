use Rattle.std.proofs.Common.{Some, refl, sym, ap, ◌∙◌}
use Rattle.task_region.specs.TaskViews.{view_of_task}
use Rattle.task_region.proofs.RunningLemmas.{under_way, still_a_task, runs_task}
use Rattle.task_region.proofs.task.TaskRegion.run.Goals as goal

pub invariant_of-self-2 : goal.invariant_of-self-2
invariant_of-self-2 c =
    let s = c.self.inside in
    let way = under_way (view_of_task s.region s.start s.next) c.in-Some.start c.in-Some.is c.self.invariant in
    still_a_task (view_of_task s.region s.start (Some c.in-Some.start)) (view_of_task c.run_on.new.region s.start c.in_ok-ran.next) c.args.limit c.in_ok-ran.ran c.in_ok-ran.ensures way

pub returns : goal.returns
returns c =
    let s = c.self.inside in
    let way = under_way (view_of_task s.region s.start s.next) c.in-Some.start c.in-Some.is c.self.invariant in
    runs_task (view_of_task s.region s.start (Some c.in-Some.start)) (view_of_task c.run_on.new.region s.start c.in_ok-ran.next) c.args.limit c.in_ok-ran.ran c.in_ok-ran.ensures way c.args.self.now
    (sym c.self.view_is ∙ ap (λ next. view_of_task s.region s.start next) c.in-Some.is) refl
