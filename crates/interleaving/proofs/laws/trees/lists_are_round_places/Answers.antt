use Rattle.interleaving.proofs.ListRoundLemmas.{around}
use Rattle.interleaving.proofs.ClearedLemmas.{front_is_quiet}
use Rattle.interleaving.proofs.laws.trees.lists_are_round_places.Goals as goal

pub returns : goal.returns
returns c = record { round = around; quiet = front_is_quiet }
