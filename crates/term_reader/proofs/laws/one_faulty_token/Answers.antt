use Rattle.term_reader.proofs.FirstFaultLemmas.{one-fault}
use Rattle.term_reader.proofs.laws.one_faulty_token.Goals as goal

pub returns : goal.returns
returns c = one-fault
