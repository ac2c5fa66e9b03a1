use Rattle.scheduler.specs.JobRuns.{IsJobRun}
use Rattle.drive_tests.proofs.rows.take_steps.Given as goal

abbrev pub invariant-loop-step : goal.invariant-loop-step
invariant-loop-step g l = IsJobRun l.tree.history l.run
