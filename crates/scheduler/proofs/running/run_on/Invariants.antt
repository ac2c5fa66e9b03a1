use Rattle.std.specs.Arc.{arc_value}
use Rattle.tree_model.specs.EventViews.{place_view}
use Rattle.scheduler.specs.StoppedTasks.{inferences_left, RunsUnder}
use Rattle.scheduler.proofs.running.run_on.Given as goal

abbrev pub invariant-loop-at : goal.invariant-loop-at
invariant-loop-at g l = RunsUnder (arc_value l.run.text) l.tree (place_view l.at) l.run.kinds l.limit l.stopped

abbrev pub decreases-loop-at : goal.decreases-loop-at
decreases-loop-at g l = inferences_left l.limit l.stopped
