use Rattle.std.proofs.Common.{◌≡◌, ◌∷◌, ◌++◌, drop, map}
use Rattle.tree_model.specs.EventViews.{place_view}
use Rattle.tree_closing.specs.Sleeping.{right_of}
use Rattle.task_stops.proofs.taking.way_beside.Given as goal

abbrev pub invariant-loop-place : goal.invariant-loop-place
invariant-loop-place l = map place_view l.way.items ++ map place_view (drop l.place-index l.above) ≡ right_of (place_view l.fn.at) ∷ map place_view l.above
