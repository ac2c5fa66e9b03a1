-- The items that a task's alternative had when it was handed out.
use Rattle.std.specs.Prelude.{◌≡◌, ℕ, suc, ◌+◌, ◌≤◌, ◌<◌, List, [], ◌∷◌, length, Some, slice_get}
use Rattle.au_term.specs.Term.{Term, var_bound}
use Rattle.run_model.specs.Machine.Items.{Item, GoalItem, CatchMark, CollectMark, RemovalItem}
use Rattle.task_region.specs.declared.deferred.DeferredItem.{DeferredItem}
use Rattle.task_region.specs.declared.deferred.DeferredItem.TheVariants.{Goal, CatchEnd, Collect, Removal}

-- the item that one is
abbrev pub item_of : DeferredItem → Item ℕ
item_of (Goal term cut) = GoalItem term cut
item_of (CatchEnd over) = CatchMark over
item_of (Collect template over) = CollectMark template over
item_of (Removal number) = RemovalItem number

-- its variables are so many that were there, its scope is that of the floor or one of its nodes, and its mark is one of these
abbrev pub IsDeferredOver : ℕ → ℕ → Item ℕ → Type 0
IsDeferredOver variables floor (GoalItem t h) = (var_bound t ≤ variables) × (h ≤ floor)
IsDeferredOver variables floor (CatchMark h) = h < floor
IsDeferredOver variables floor (CollectMark t h) = (var_bound t ≤ variables) × (h < floor)
IsDeferredOver variables floor (RemovalItem number) = Unit {0}

-- the end of what a catch guards has this number
abbrev pub IsMarkAt : List (Item ℕ) → ℕ → Type 0
IsMarkAt items number = (h : ℕ) × (slice_get items number ≡ Some (CatchMark h))

-- from a number on such ends come, up to one under which there is none
pub record SkipsMarks (items : List (Item ℕ)) (start reached : ℕ) : Type 0 where
  pub from : start ≤ reached
  pub marks : (number : ℕ) → start ≤ number → number < reached → IsMarkAt items number
  pub last : IsMarkAt items reached → ⊥

-- these goals stand from a number on, in one scope
abbrev pub AreGoalsFrom : List (Item ℕ) → ℕ → ℕ → List Term → Type 0
AreGoalsFrom items cut number [] = Unit {0}
AreGoalsFrom items cut number (t ∷ goals) = (slice_get items number ≡ Some (GoalItem t cut)) × AreGoalsFrom items cut (suc number) goals

-- and this number comes after them
pub record FindsGoals (items : List (Item ℕ)) (cut number : ℕ) (goals : List Term) (rest : ℕ) : Type 0 where
  pub are : AreGoalsFrom items cut number goals
  pub rest_is : rest ≡ number + length goals
