use Rattle.region_floor.proofs.RegionRunLemmas.{goals_loaded, mark_skipped, answer_stops, removal_stops, result_comes}
use Rattle.region_floor.proofs.laws.runs.region_takes_deferred_items.Goals as goal

pub returns : goal.returns
returns c = record { goals = goals_loaded; mark = mark_skipped; answer = answer_stops; removal = removal_stops; result = result_comes }
