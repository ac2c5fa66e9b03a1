use Rattle.branch_shapes.proofs.FloorItemLemmas.{floor_items_stay, scoped_items_name_levels}
use Rattle.branch_shapes.proofs.laws.floor_items_stay.Goals as goal

pub returns : goal.returns
returns c = record { stay = floor_items_stay; scoped = scoped_items_name_levels }
