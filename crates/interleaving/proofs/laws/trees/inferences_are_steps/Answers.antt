use Rattle.interleaving.proofs.StepsTakenLemmas.{private_is_step, front_is_step}
use Rattle.interleaving.proofs.laws.trees.inferences_are_steps.Goals as goal

pub returns : goal.returns
returns c = record { alone = private_is_step; front = front_is_step }
