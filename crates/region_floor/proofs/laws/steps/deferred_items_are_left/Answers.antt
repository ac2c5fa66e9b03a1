use Rattle.region_floor.proofs.JoinedLemmas.{all_is_left, bound_now, joined-resolved}
use Rattle.region_floor.proofs.laws.steps.deferred_items_are_left.Goals as goal

pub returns : goal.returns
returns c = record { all = all_is_left; now = bound_now; bound = joined-resolved }
