use Rattle.std.proofs.Common.{sym, subst}
use Rattle.run_model.specs.Machine.Runs.{text_of}
use Rattle.stack_run.specs.RunEnds.{IsRun}
use Rattle.scheduler.proofs.EndingLemmas.{cut_by_memory, nothing_yet}
use Rattle.scheduler.proofs.driving.drive_job.Goals as goal

pub returns-in-Err-clause-run : goal.returns-in-Err-clause-run
returns-in-Err-clause-run g c =
    subst (IsRun c.args.job c.args.budget (g.K.Sink.taken c.args.out.now) (g.K.Sink.taken c.args.out.now)) (sym c.cut_short.ensures)
    (cut_by_memory c.args.job c.args.budget _ _ (nothing_yet (text_of c.args.job c.args.budget) _))
