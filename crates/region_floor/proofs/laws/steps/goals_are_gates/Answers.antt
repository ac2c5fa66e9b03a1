use Rattle.region_floor.proofs.GateTopLemmas.{world_goals_are_gates, halts_are_gates, cuts_are_gates}
use Rattle.region_floor.proofs.laws.steps.goals_are_gates.Goals as goal

pub returns : goal.returns
returns c = record { world = world_goals_are_gates; halt = halts_are_gates; cut = cuts_are_gates }
