use Rattle.scheduler.specs.JobRuns.{IsJobRun}
use Rattle.drive_tests.proofs.rows.turns_taken.Given as goal

abbrev pub invariant-loop-taken : goal.invariant-loop-taken
invariant-loop-taken g l = IsJobRun l.tree.history l.run
