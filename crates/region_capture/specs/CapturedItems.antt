-- Items that are left, as they are written. Each number but 0 has an item and goes on with what a smaller number has, so that what follows
-- is shared.
use Rattle.std.specs.Prelude.{◌≡◌, ℕ, ◌+◌, ◌<◌, ◌≤◌, List, [], ◌∷◌, ◌++◌, Some, get_or, slice_get}
use Rattle.au_term.specs.Term.{var_bound}
use Rattle.run_model.specs.Machine.Items.{Item, GoalItem, CatchMark, CollectMark, RemovalItem}
use Rattle.region_capture.specs.declared.items.CapturedItem.{CapturedItem}
use Rattle.region_capture.specs.declared.items.CapturedItem.TheVariants.{Goal, CatchEnd, Collect, Removal}
use Rattle.region_capture.specs.declared.items.ItemLink.{ItemLink}

-- the item that one is
abbrev pub captured_item : CapturedItem → Item ℕ
captured_item (Goal term cut) = GoalItem term cut
captured_item (CatchEnd over) = CatchMark over
captured_item (Collect template over) = CollectMark template over
captured_item (Removal number) = RemovalItem number

-- the items that each number has
abbrev pub ItemLists : Type 0
ItemLists = List (List (Item ℕ))

abbrev pub linked_over : ItemLists → List ItemLink → ItemLists
linked_over lists [] = lists
linked_over lists (l ∷ links) = linked_over (lists ++ (captured_item l.item ∷ get_or lists l.after []) ∷ []) links

-- number 0 has none
abbrev pub linked_items : List ItemLink → ItemLists
linked_items links = linked_over ([] ∷ []) links

-- each goes on with a smaller number, the first of them being this one
abbrev pub AreItemLinksFrom : ℕ → List ItemLink → Type 0
AreItemLinksFrom n [] = Unit {0}
AreItemLinksFrom n (l ∷ links) = (l.after < n) × AreItemLinksFrom (n + 1) links

-- items are those that a number has
abbrev pub HasItems : ItemLists → ℕ → List (Item ℕ) → Type 0
HasItems lists number items = slice_get lists number ≡ Some items

-- a number has an item before what a smaller number has
pub record HasItemBefore (lists : ItemLists) (number : ℕ) (item : Item ℕ) (after : ℕ) : Type 0 where
  pub smaller : after < number
  pub rest : List (Item ℕ)
  pub follows : HasItems lists after rest
  pub items : HasItems lists number (item ∷ rest)

-- further numbers have items, and those that were there have the same
pub record AddsItems (old new : ItemLists) : Type 0 where
  pub more : ItemLists
  pub are : new ≡ old ++ more

-- an item whose variables are below a number, that cuts to so many choice points at most and marks one of them
abbrev pub IsItemOver : ℕ → ℕ → Item ℕ → Type 0
IsItemOver next cut (GoalItem t c) = (var_bound t ≤ next) × (c ≤ cut)
IsItemOver next cut (CatchMark over) = over < cut
IsItemOver next cut (CollectMark t over) = (var_bound t ≤ next) × (over < cut)
IsItemOver next cut (RemovalItem number) = Unit {0}
