use Rattle.region_floor.proofs.RunLemmas.{run_starts, goals_rest, run_goes_on}
use Rattle.region_floor.proofs.laws.steps.regions_run_privately.Goals as goal

pub returns : goal.returns
returns c = record { start = run_starts; rest = goals_rest; next = run_goes_on }
