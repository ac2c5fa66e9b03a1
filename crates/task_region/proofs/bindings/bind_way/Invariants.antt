use Rattle.std.proofs.Common.{◌≤◌, length, drop, map}
use Rattle.tree_model.specs.EventViews.{place_view}
use Rattle.branch_reading.specs.BranchSegments.{bindings_on}
use Rattle.task_region.specs.MadeInTurn.{Makes}
use Rattle.task_region.specs.PlacesUp.{segments_at}
use Rattle.task_region.proofs.bindings.bind_way.Given as goal

abbrev pub invariant-loop-left : goal.invariant-loop-left
invariant-loop-left l = record {
  within : l.left ≤ length l.places;
  made : Makes l.initial.region l.region (bindings_on (segments_at l.nodes.rows (map place_view (drop l.left l.places))));
}

abbrev pub decreases-loop-left : goal.decreases-loop-left
decreases-loop-left l = l.left
