use Rattle.text_load.proofs.TermTotalityLemmas.{term-or-fault}
use Rattle.text_load.proofs.laws.terms_are_read_or_refused.Goals as goal

pub returns : goal.returns
returns c = term-or-fault
