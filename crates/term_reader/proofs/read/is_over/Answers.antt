use Rattle.std.proofs.Common.{sym}
use Rattle.term_reader.proofs.WholeReadingLemmas.{over-is, over-not, over-fault}
use Rattle.term_reader.proofs.read.is_over.Goals as goal

pub returns-in-EndOfText : goal.returns-in-EndOfText
returns-in-EndOfText c = sym (over-is c.args.text.now c.args.at c.in-Ok.token c.in-Ok.ensures.token c.in-EndOfText.is)

pub returns-in_default : goal.returns-in_default
returns-in_default c = sym (over-not c.args.text.now c.args.at c.in-Ok.token c.in-Ok.ensures.token c.in_default.not-EndOfText)

pub returns-in-Err : goal.returns-in-Err
returns-in-Err c = sym (over-fault c.args.text.now c.args.at c.in-Err.field-0 c.in-Err.ensures.fault)
