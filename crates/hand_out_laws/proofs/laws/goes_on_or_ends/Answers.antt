use Rattle.hand_out_laws.proofs.OutHistoryLemmas.{goes_on}
use Rattle.hand_out_laws.proofs.laws.goes_on_or_ends.Goals as goal

pub returns : goal.returns
returns c = goes_on c.never_stuck.ensures
