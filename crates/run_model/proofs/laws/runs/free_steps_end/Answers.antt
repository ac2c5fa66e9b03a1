use Rattle.run_model.proofs.FreeStepLemmas.{no_step_left, nothing_is_taken}
use Rattle.run_model.proofs.laws.runs.free_steps_end.Goals as goal

pub returns : goal.returns
returns c = record { end = no_step_left; stay = nothing_is_taken }
