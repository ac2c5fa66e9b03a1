use Rattle.interleaving.proofs.ListsSoundLemmas.{lists_are_sound}
use Rattle.interleaving.proofs.laws.histories.lists_have_sound_names.Goals as goal

pub returns : goal.returns
returns c = lists_are_sound
