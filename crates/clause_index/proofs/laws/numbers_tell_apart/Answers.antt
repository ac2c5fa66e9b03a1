use Rattle.clause_index.proofs.HeadKeyLemmas.{numbers_apart}
use Rattle.clause_index.proofs.laws.numbers_tell_apart.Goals as goal

pub returns : goal.returns
returns c = numbers_apart
