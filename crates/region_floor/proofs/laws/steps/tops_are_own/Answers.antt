use Rattle.region_floor.proofs.RunLemmas.{tops_are_own, ends_are_bare, nothing_is_bare, own_are_over, own_are_counted}
use Rattle.region_floor.proofs.laws.steps.tops_are_own.Goals as goal

pub returns : goal.returns
returns c = record { top = tops_are_own; end = ends_are_bare; none = nothing_is_bare; over = own_are_over; count = own_are_counted }
