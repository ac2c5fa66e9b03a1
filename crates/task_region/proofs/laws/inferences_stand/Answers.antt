use Rattle.task_region.proofs.EngineLemmas.{inference_stands, floor_cut_stops}
use Rattle.task_region.proofs.laws.inferences_stand.Goals as goal

pub returns : goal.returns
returns c = record { inference = inference_stands; cut = floor_cut_stops }
