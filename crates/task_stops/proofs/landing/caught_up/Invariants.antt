use Rattle.std.proofs.Common.{◌≡◌, drop, map}
use Rattle.tree_model.specs.EventViews.{place_view}
use Rattle.task_stops.specs.Landings.{landing}
use Rattle.task_stops.proofs.landing.caught_up.Given as goal

abbrev pub invariant-loop-index : goal.invariant-loop-index
invariant-loop-index l =
    landing l.nodes.rows l.ball l.fn.first (map place_view l.places) ≡ landing l.nodes.rows l.ball l.mark (map place_view (drop l.index l.places))
