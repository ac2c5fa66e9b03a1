use Rattle.aurora_cli.proofs.RefusalLemmas.{no_text_at}
use Rattle.aurora_cli.proofs.job.not_text.Goals as goal

pub returns : goal.returns
returns c = no_text_at c.args.bytes.now c.in-Ok.text.now c.args.valid c.line_and_column-line.result.0 c.line_and_column-line.result.1 c.requires c.in-Ok.ensures.cases.0 c.line_and_column-line.ensures
