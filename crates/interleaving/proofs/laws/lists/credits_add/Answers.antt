use Rattle.interleaving.proofs.ListChangeLemmas.{credits_add, no_credit}
use Rattle.interleaving.proofs.CreditLawLemmas.{one_credit, enough_credit}
use Rattle.interleaving.proofs.laws.lists.credits_add.Goals as goal

pub returns : goal.returns
returns c = record { one = one_credit; add = credits_add; none = no_credit; enough = enough_credit }
