use Rattle.interleaving.proofs.PassingLemmas.{credits_pass, credits_end}
use Rattle.interleaving.proofs.laws.lists.credits_pass.Goals as goal

pub returns : goal.returns
returns c = record { pass = credits_pass; end = credits_end }
