use Rattle.std.proofs.Common.{map, take}
use Rattle.tree_model.specs.EventViews.{place_view}
use Rattle.task_region.specs.PlacesUp.{HaveNoQuery}
use Rattle.task_region.proofs.places.has_query.Given as goal

abbrev pub invariant-loop-place : goal.invariant-loop-place
invariant-loop-place l = HaveNoQuery l.nodes.rows (map place_view (take l.place-index l.places))
