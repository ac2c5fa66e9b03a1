use Rattle.scheduler.specs.JobRuns.{IsJobRun}
use Rattle.drive_tests.proofs.interleaved.run_to_end.Given as goal

abbrev pub invariant-loop : goal.invariant-loop
invariant-loop g l = IsJobRun l.tree.history l.run
