-- The goals of a branch that are made of items which were taken off a region.
use Rattle.std.specs.Prelude.{◌≡◌, ℕ, suc, ◌<◌, List, [], ◌∷◌, length, drop, slice_get, Some}
use Rattle.run_model.specs.Machine.Items.{Item, GoalItem, CatchMark, CollectMark, RemovalItem}
use Rattle.clause_compile.specs.declared.item.Item.{Item as BranchItem}
use Rattle.clause_compile.specs.declared.item.Item.TheVariants.{Goal, CatchEnd, Collect, Remove}
use Rattle.clause_compile.specs.declared.item.Scope.TheVariants.{Node}
use Rattle.region_capture.specs.CapturedItems.{ItemLists, HasItems}

-- an item with the nodes to which it cuts, and which it marks
abbrev pub branch_item : (ℕ → ℕ) → Item ℕ → BranchItem
branch_item scope (GoalItem t n) = Goal t (Node (scope n))
branch_item scope (CatchMark n) = CatchEnd (Node (scope (suc n)))
branch_item scope (CollectMark t n) = Collect t (Node (scope (suc n)))
branch_item scope (RemovalItem number) = Remove (record { 0 = number })

-- a removal stands for what the alternative of the tree had left from a number on, and is the last item
abbrev pub branch_goals : (ℕ → ℕ) → List BranchItem → List (Item ℕ) → List BranchItem
branch_goals scope deferred [] = []
branch_goals scope deferred (GoalItem t n ∷ items) = branch_item scope (GoalItem t n) ∷ branch_goals scope deferred items
branch_goals scope deferred (CatchMark n ∷ items) = branch_item scope (CatchMark n) ∷ branch_goals scope deferred items
branch_goals scope deferred (CollectMark t n ∷ items) = branch_item scope (CollectMark t n) ∷ branch_goals scope deferred items
branch_goals scope deferred (RemovalItem number ∷ items) = drop number deferred

-- the lists that are left of one from each of its items on, and the empty one
pub record AreTailsOf (goals : List BranchItem) (tails : List (List BranchItem)) : Type 0 where
  pub many : length tails ≡ suc (length goals)
  pub each : (n : ℕ) → n < length tails → slice_get tails n ≡ Some (drop n goals)

-- the goals of so many numbers of items
pub record AreGoalsOf (lists : ItemLists) (scope : ℕ → ℕ) (deferred : List BranchItem) (goals : List (List BranchItem)) : Type 0 where
  pub each : (n : ℕ) (items : List (Item ℕ)) → n < length goals → HasItems lists n items
      → slice_get goals n ≡ Some (branch_goals scope deferred items)
