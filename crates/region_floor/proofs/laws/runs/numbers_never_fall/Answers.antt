use Rattle.region_floor.proofs.NextNumberLemmas.{next_never_falls}
use Rattle.region_floor.proofs.laws.runs.numbers_never_fall.Goals as goal

pub returns : goal.returns
returns c = next_never_falls
