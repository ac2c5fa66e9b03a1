use Rattle.std.specs.Str.{chars}
use Rattle.std.proofs.Common.{sym, subst}
use Rattle.aurora_cli.specs.LoadFaults.{IsTextFault}
use Rattle.aurora_cli.proofs.RefusalLemmas.{stands_for, refused_text}
use Rattle.aurora_cli.proofs.job.job_of.Goals as goal

pub returns-in-Ok-load-clause-ok : goal.returns-in-Ok-load-clause-ok
returns-in-Ok-load-clause-ok c =
    stands_for (chars c.library.result.now) c.args.bytes.now c.in-Ok.text.now c.library.ensures c.in-Ok.ensures.cases.0 c.in-Ok.ensures.cases.1 c.in-Ok-load.job c.in-Ok-load.ensures.ok

pub returns-in-Err-load-clause-err : goal.returns-in-Err-load-clause-err
returns-in-Err-load-clause-err c =
    subst (IsTextFault c.args.bytes.now) (sym c.ending_of.ensures) (refused_text (chars c.library.result.now) c.args.bytes.now c.in-Ok.text.now c.library.ensures c.in-Ok.ensures.cases.0 c.in-Ok.ensures.cases.1 c.in-Err-load.refusal c.in-Err-load.ensures.refused)
