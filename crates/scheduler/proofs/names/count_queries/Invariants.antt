use Rattle.std.proofs.Common.{◌≡◌, ◌+◌, ◌≤◌, map, drop}
use Rattle.task_region.specs.PlacesUp.{branching_at}
use Rattle.branch_reading.specs.Readings.{queries_on}
use Rattle.tree_model.specs.EventViews.{place_view}
use Rattle.scheduler.proofs.names.count_queries.Given as goal

abbrev pub invariant-loop-place : goal.invariant-loop-place
invariant-loop-place l = record {
  within : l.count ≤ l.place-index;
  counted : queries_on (branching_at l.nodes.rows (map place_view l.places)) ≡ l.count + queries_on (branching_at l.nodes.rows (map place_view (drop l.place-index l.places)));
}
