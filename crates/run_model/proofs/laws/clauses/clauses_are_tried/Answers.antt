use Rattle.run_model.proofs.ClauseTrialLemmas.{first_clause_tried, others_give_nothing}
use Rattle.run_model.proofs.laws.clauses.clauses_are_tried.Goals as goal

pub returns : goal.returns
returns c = record { tried = first_clause_tried; others = others_give_nothing }
