use Rattle.run_model.proofs.NumberingLemmas.{step-numbered, free_steps_within-numbered}
use Rattle.run_model.proofs.laws.runs.steps_keep_numbers.Goals as goal

pub returns : goal.returns
returns c = record { step = step-numbered; free = λ es h. free_steps_within-numbered _ es h }
