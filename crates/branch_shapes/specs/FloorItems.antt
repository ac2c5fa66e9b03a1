-- Items that name nodes of a branch, as items over its floor.
use Rattle.std.specs.Prelude.{◌≡◌, ℕ, ◌-◌, true, List, length, map}
use Rattle.au_model.specs.Terms.Each.{Each}
use Rattle.run_model.specs.Machine.Items.{Item, GoalItem, CatchMark, CollectMark, RemovalItem}
use Rattle.tree_model.specs.Floors.{height_of, renamed_item}
use Rattle.tree_model.specs.Levels.{Level}
use Rattle.tree_model.specs.PendingLists.{way_of}
use Rattle.tree_model.specs.Ways.{is_on, AreScoped}
use Rattle.branch_shapes.specs.Groups.{Groups}
use Rattle.branch_shapes.specs.ChoiceScopes.{IsOverChoices, items_by_heights, items_by_nodes}

-- an item that names no other nodes
abbrev pub NamesLevels : List Level → Item ℕ → Type 0
NamesLevels levels (GoalItem t s) = is_on (way_of levels) s ≡ true
NamesLevels levels (CatchMark s) = is_on (way_of levels) s ≡ true
NamesLevels levels (CollectMark t s) = is_on (way_of levels) s ≡ true
NamesLevels levels (RemovalItem number) = Unit {0}

-- by the numbers of the floor's choice points, one for each node
abbrev pub items_over_floor : List Level → List (Item ℕ) → List (Item ℕ)
items_over_floor levels items = map (renamed_item (height_of levels) (λ s. height_of levels s - 1)) items

-- whatever groups are over the floor, they have the same heights, and name the same nodes
pub record StayOverFloor (number : ℕ) (levels : List Level) (gs : Groups) (items : List (Item ℕ)) : Type 0 where
  pub over : Each (IsOverChoices (length levels) gs) (items_over_floor levels items)
  pub heights : items_by_heights (length levels) gs (items_over_floor levels items) ≡ items_over_floor levels items
  pub nodes : items_by_nodes number levels gs (items_over_floor levels items) ≡ items

abbrev pub FloorItemsStay : Type 0
FloorItemsStay = (number : ℕ) (levels : List Level) (gs : Groups) (items : List (Item ℕ)) → Each (NamesLevels levels) items
    → StayOverFloor number levels gs items

-- as those of each entry of a sound tree do
abbrev pub ScopedItemsNameLevels : Type 0
ScopedItemsNameLevels = (levels : List Level) (items : List (Item ℕ)) → AreScoped (way_of levels) items → Each (NamesLevels levels) items
