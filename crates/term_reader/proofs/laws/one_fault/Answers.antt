use Rattle.term_reader.proofs.FirstFaultLemmas.{same-fault}
use Rattle.term_reader.proofs.laws.one_fault.Goals as goal

pub returns : goal.returns
returns c = same-fault
