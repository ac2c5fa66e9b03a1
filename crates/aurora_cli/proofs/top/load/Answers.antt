use Rattle.aurora_cli.proofs.EndingLemmas.{load_fault, loaded_job}
use Rattle.aurora_cli.proofs.top.load.Goals as goal

pub returns-in-Ok-clause-job : goal.returns-in-Ok-clause-job
returns-in-Ok-clause-job g c =
    loaded_job c.job_of.result (g.S.Shelf.held c.args.shelf.now c.args.file.now) c.deref.result.now c.in-Ok.bytes.items c.deref.ensures.value c.in-Ok.ensures.whole c.job_of.ensures.ok

pub returns-in-Ok-clause-cause : goal.returns-in-Ok-clause-cause
returns-in-Ok-clause-cause g c =
    load_fault c.job_of.result (g.S.Shelf.held c.args.shelf.now c.args.file.now) c.deref.result.now c.in-Ok.bytes.items c.deref.ensures.value c.in-Ok.ensures.whole c.job_of.ensures.err
