use Rattle.scheduler.specs.JobRuns.{IsJobRun}
use Rattle.drive_tests.proofs.workers.take_all.Given as goal

abbrev pub invariant-loop-worker : goal.invariant-loop-worker
invariant-loop-worker g l = IsJobRun l.tree.history l.run
