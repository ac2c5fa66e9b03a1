use Rattle.hand_out_laws.proofs.OutHistoryLemmas.{all_back, all_back_going}
use Rattle.hand_out_laws.proofs.laws.all_is_back.Goals as goal

pub returns-clause-unhalted : goal.returns-clause-unhalted
returns-clause-unhalted c = all_back

pub returns-clause-going : goal.returns-clause-going
returns-clause-going c = all_back_going
