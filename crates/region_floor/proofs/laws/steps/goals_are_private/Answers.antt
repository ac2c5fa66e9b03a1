use Rattle.region_floor.proofs.OwnGoalLemmas.{controls_are_private, solutions_are_private}
use Rattle.region_floor.proofs.laws.steps.goals_are_private.Goals as goal

pub returns : goal.returns
returns c = record { controls = controls_are_private; solutions = solutions_are_private }
