use Rattle.interleaving.proofs.FrontLawLemmas.{front_gate, front_gate_in_place}
use Rattle.interleaving.proofs.laws.lists.front_gates_step.Goals as goal

pub returns : goal.returns
returns c = record { whole = front_gate; in_place = front_gate_in_place }
