use Rattle.std.proofs.Common.{◌≡◌, ◌+◌, ℕ, map, drop}
use Rattle.tree_model.specs.EventViews.{place_view}
use Rattle.task_region.specs.PlacesUp.{IsQueryPart}
use Rattle.task_region.proofs.places.query_part.Given as goal

abbrev pub invariant-loop-place : goal.invariant-loop-place
invariant-loop-place l = record {
  count : l.count ≡ l.place-index;
  part : (n : ℕ) → IsQueryPart l.nodes.rows (map place_view (drop l.place-index l.places)) n → IsQueryPart l.nodes.rows (map place_view l.places) (l.count + n);
}
