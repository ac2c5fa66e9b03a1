use Rattle.std.proofs.Common.{◌≡◌, ◌++◌, List, map}
use Rattle.task_region.specs.DeferredItems.{item_of}
use Rattle.task_region.specs.PlacesUp.{AreFallingPlaces, AreNumbersOf}
use Rattle.task_region.specs.ScopeHeights.{items_over}
use Rattle.tree_model.specs.Levels.{Place}
use Rattle.task_region.proofs.items.deferred_items.Given as goal

abbrev pub invariant-loop-item : goal.invariant-loop-item
invariant-loop-item l =
    (places : List Place) → AreNumbersOf places l.numbers → AreFallingPlaces places
    → map item_of l.items.items ++ items_over places l.item-iterator ≡ items_over places l.goals
