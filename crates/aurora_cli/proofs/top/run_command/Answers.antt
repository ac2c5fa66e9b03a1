use Rattle.aurora_cli.proofs.EndingLemmas.{ran, complete_run, complete_fault}
use Rattle.aurora_cli.proofs.OneRefusalLemmas.{refused_run, refused_fault}
use Rattle.aurora_cli.proofs.top.run_command.Goals as goal

pub returns-in-Ok-clause-run : goal.returns-in-Ok-clause-run
returns-in-Ok-clause-run g c =
    ran (g.S.Shelf.held c.args.shelf.now c.args.command.now.file.now) c.in-Ok.job c.args.command.now.budget (g.K.Sink.taken c.args.out.now) (g.K.Sink.taken c.run_job.new.out) c.run_job.result c.in-Ok.ensures.job c.ending_of_run.result c.run_job.ensures.run c.ending_of_run.ensures

pub returns-in-Ok-clause-complete : goal.returns-in-Ok-clause-complete
returns-in-Ok-clause-complete g c = λ read write.
    complete_run (g.S.Shelf.held c.args.shelf.now c.args.command.now.file.now) c.in-Ok.job c.args.command.now.budget (g.K.Sink.taken c.args.out.now) (g.K.Sink.taken c.run_job.new.out) c.run_job.result c.ending_of_run.result c.in-Ok.ensures.job c.run_job.ensures.run c.ending_of_run.ensures
    (λ q. write (c.run_job.ensures.fault q))

pub returns-in-Err-clause-complete : goal.returns-in-Err-clause-complete
returns-in-Err-clause-complete g c = λ read write.
    complete_fault (g.S.Shelf.held c.args.shelf.now c.args.command.now.file.now) c.in-Err.ending c.args.command.now.budget c.in-Err.ensures.cause (λ q. read (c.in-Err.ensures.read_fault q)) c.in-Err.ensures.long

pub returns-in-Ok-clause-refusal : goal.returns-in-Ok-clause-refusal
returns-in-Ok-clause-refusal g c = λ read. refused_run (g.S.Shelf.held c.args.shelf.now c.args.command.now.file.now) c.in-Ok.job c.ending_of_run.result c.in-Ok.ensures.job (c.in-Ok.ensures.short tt)

pub returns-in-Err-clause-refusal : goal.returns-in-Err-clause-refusal
returns-in-Err-clause-refusal g c = λ read.
    refused_fault (g.S.Shelf.held c.args.shelf.now c.args.command.now.file.now) c.in-Err.ending c.in-Err.ensures.cause (λ q. read (c.in-Err.ensures.read_fault q)) c.in-Err.ensures.long c.in-Err.ensures.short
