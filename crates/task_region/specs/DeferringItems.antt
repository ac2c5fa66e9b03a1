-- What an alternative has left to do is deferred.
use Rattle.std.specs.Prelude.{◌≡◌, ℕ, List, ◌++◌, map}
use Rattle.clause_compile.specs.declared.item.Item.{Item as BranchItem}
use Rattle.task_region.specs.DeferredItems.{item_of}
use Rattle.task_region.specs.PlacesUp.{AreFallingPlaces, AreNumbersOf}
use Rattle.task_region.specs.ScopeHeights.{items_over}
use Rattle.task_region.specs.declared.deferred.DeferredItem.{DeferredItem}
use Rattle.tree_model.specs.Levels.{Place}

-- items of a branch are deferred behind others, with heights by the places whose nodes have these numbers
abbrev pub DefersItems : List ℕ → List DeferredItem → List BranchItem → List DeferredItem → Type 0
DefersItems numbers before items deferred =
    (places : List Place) → AreNumbersOf places numbers → AreFallingPlaces places → map item_of deferred ≡ map item_of before ++ items_over places items
