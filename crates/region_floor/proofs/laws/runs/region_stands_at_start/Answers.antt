use Rattle.region_floor.proofs.RegionRunLemmas.{region_starts, free_steps}
use Rattle.region_floor.proofs.laws.runs.region_stands_at_start.Goals as goal

pub returns : goal.returns
returns c = record { start = region_starts; free = free_steps }
