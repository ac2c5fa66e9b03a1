use Rattle.std.proofs.Common.{◌≡◌}
use Rattle.run_model.specs.Machine.Runs.{text_of}
use Rattle.scheduler.specs.JobRuns.{IsJobRun}
use Rattle.scheduler.specs.KeptFor.{IsKeptFor}
use Rattle.scheduler.specs.Driving.{IsDriven}
use Rattle.scheduler.specs.Pieces.{HasPutOut}
use Rattle.scheduler.proofs.driving.drive_on.Given as goal

abbrev pub invariant-loop-turn : goal.invariant-loop-turn
invariant-loop-turn g l = record {
  job : l.tree.history.job ≡ l.fn.tree.history.job;
  budget : l.tree.history.budget ≡ l.budget;
  driven : IsDriven l.tree.history;
  run : IsJobRun l.tree.history l.run;
  kept : IsKeptFor l.tree l.run l.kept;
  put : HasPutOut (text_of l.fn.tree.history.job l.budget) l.put (g.K.Sink.taken l.fn.out) (g.K.Sink.taken l.out);
  quiet : g.K.Sink.faults l.out ≡ g.K.Sink.faults l.fn.out;
}
