use Rattle.au_model.proofs.UnifierLemmas.{unifier_goes, unifier_answers}
use Rattle.au_model.proofs.EquationOrderLemmas.{order_is_free}
use Rattle.au_model.proofs.EquationsInTurnLemmas.{front_first}
use Rattle.au_model.proofs.laws.unification.unifier_is_most_general.Goals as goal

pub returns : goal.returns
returns c = record { rules = unifier_goes; answer = unifier_answers; order = order_is_free; front = front_first }
