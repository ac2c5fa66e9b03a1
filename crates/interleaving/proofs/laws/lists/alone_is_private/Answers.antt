use Rattle.interleaving.proofs.EarlyLawLemmas.{private_alone}
use Rattle.interleaving.proofs.laws.lists.alone_is_private.Goals as goal

pub returns : goal.returns
returns c = private_alone
