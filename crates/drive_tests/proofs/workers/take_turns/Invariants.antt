use Rattle.scheduler.specs.JobRuns.{IsJobRun}
use Rattle.drive_tests.proofs.workers.take_turns.Given as goal

abbrev pub invariant-loop-one : goal.invariant-loop-one
invariant-loop-one g l = IsJobRun l.tree.history l.run
