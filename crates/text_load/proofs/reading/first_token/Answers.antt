use Rattle.text_load.proofs.SentenceLemmas.{begins_no_fault}
use Rattle.text_load.proofs.reading.first_token.Goals as goal

pub returns-in-Err-clause-begins : goal.returns-in-Err-clause-begins
returns-in-Err-clause-begins c s = begins_no_fault s c.args.text.now c.args.at c.in-Err.field-0 c.in-Err.ensures.fault
