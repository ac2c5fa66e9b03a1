use Rattle.interleaving.proofs.ListChangeLemmas.{named_anew}
use Rattle.interleaving.proofs.laws.readings.changed_lists_are_named_anew.Goals as goal

pub returns : goal.returns
returns c = named_anew
