use Rattle.std.proofs.Common.{◌≡◌, drop, map}
use Rattle.tree_model.specs.EventViews.{place_view}
use Rattle.task_stops.specs.LandingBodies.{query_up}
use Rattle.task_stops.proofs.landing.query_up.Given as goal

abbrev pub invariant-loop-place : goal.invariant-loop-place
invariant-loop-place l = query_up l.nodes.rows (map place_view (drop l.place-index l.places)) ≡ query_up l.nodes.rows (map place_view l.places)
