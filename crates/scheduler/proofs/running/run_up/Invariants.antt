use Rattle.std.specs.Arc.{arc_value}
use Rattle.tree_model.specs.EventViews.{place_view}
use Rattle.scheduler.specs.StoppedTasks.{run_before_ball}
use Rattle.scheduler.proofs.TaskLemmas.{RunsSome}
use Rattle.scheduler.proofs.running.run_up.Given as goal

abbrev pub invariant-loop-at : goal.invariant-loop-at
invariant-loop-at g l = RunsSome (arc_value l.run.text) l.tree l.worker (place_view l.at) l.out

abbrev pub decreases-loop-at : goal.decreases-loop-at
decreases-loop-at g l = run_before_ball l.out
