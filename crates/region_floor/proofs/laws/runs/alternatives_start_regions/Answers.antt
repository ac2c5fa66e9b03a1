use Rattle.region_floor.proofs.RegionRunLemmas.{entries_by_heights, marks_are_outer}
use Rattle.region_floor.proofs.laws.runs.alternatives_start_regions.Goals as goal

pub returns : goal.returns
returns c = record { entry = entries_by_heights; outer = marks_are_outer }
