use Rattle.hand_out_laws.proofs.OutAndBackLemmas.{one_out, one_back, turn_back, turns_back}
use Rattle.hand_out_laws.proofs.laws.out_and_back.Goals as goal

pub returns-clause-out : goal.returns-clause-out
returns-clause-out c = one_out

pub returns-clause-back : goal.returns-clause-back
returns-clause-back c = one_back

pub returns-clause-once : goal.returns-clause-once
returns-clause-once c = turn_back

pub returns-clause-again : goal.returns-clause-again
returns-clause-again c = turns_back
