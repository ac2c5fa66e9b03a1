use Rattle.interleaving.proofs.FrontSameLemmas.{floor_is_enough, front_is_same}
use Rattle.interleaving.proofs.laws.floors.floors_are_enough.Goals as goal

pub returns : goal.returns
returns c = record { floor = floor_is_enough; front = front_is_same }
