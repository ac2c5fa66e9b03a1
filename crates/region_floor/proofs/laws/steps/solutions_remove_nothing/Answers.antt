use Rattle.region_floor.proofs.KeptClauseLemmas.{outcome-kept}
use Rattle.region_floor.proofs.laws.steps.solutions_remove_nothing.Goals as goal

pub returns : goal.returns
returns c = outcome-kept
