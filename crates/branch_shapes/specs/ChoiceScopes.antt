-- Items whose scopes are numbers of choice points: first those of a branch's floor, then those over it.
use Rattle.std.specs.Prelude.{◌≡◌, ◌⊎◌, ℕ, suc, ◌-◌, ◌<◌, ◌≤◌, cond, nat_le, List, [], ◌∷◌, length, map, Some, slice_get}
use Rattle.au_model.specs.Terms.Each.{Each}
use Rattle.run_model.specs.Machine.Entries.{Entry}
use Rattle.run_model.specs.Machine.Items.{Item, GoalItem, CatchMark, CollectMark, RemovalItem}
use Rattle.tree_model.specs.Floors.{node_of, renamed_item}
use Rattle.tree_model.specs.Levels.{Level}
use Rattle.tree_model.specs.Shapes.{cuts_of_items, placed_scope}
use Rattle.branch_shapes.specs.Groups.{Groups, height_kept, node_sizes, scope_kept}
use Rattle.branch_shapes.specs.GroupLaws.{IsWholeHeight}

-- the height that a cut leaves which keeps so many choice points
abbrev pub choice_height : ℕ → Groups → ℕ → ℕ
choice_height floor gs n = cond (nat_le n floor) n (height_kept floor gs (n - floor))

-- the node to which it is
abbrev pub choice_scope : ℕ → List Level → Groups → ℕ → ℕ
choice_scope next levels gs n = cond (nat_le n (length levels)) (node_of levels n) (scope_kept next levels gs (n - length levels))

-- a choice point with one entry
pub record IsAloneAt (gs : Groups) (n : ℕ) : Type 0 where
  pub entry : Entry
  pub is : slice_get gs n ≡ Some (entry ∷ [])

-- a choice point of the floor, or one over it that has one entry
abbrev pub CanBeMarked : ℕ → Groups → ℕ → Type 0
CanBeMarked floor gs n = (n < floor) ⊎ ((floor ≤ n) × IsAloneAt gs (n - floor))

-- an item that marks such a choice point, if any
abbrev pub IsOverChoices : ℕ → Groups → Item ℕ → Type 0
IsOverChoices floor gs (GoalItem t n) = Unit {0}
IsOverChoices floor gs (CatchMark n) = CanBeMarked floor gs n
IsOverChoices floor gs (CollectMark t n) = CanBeMarked floor gs n
IsOverChoices floor gs (RemovalItem number) = Unit {0}

-- a mark is of the choice point over so many others
abbrev pub items_by_heights : ℕ → Groups → List (Item ℕ) → List (Item ℕ)
items_by_heights floor gs items = map (renamed_item (choice_height floor gs) (choice_height floor gs)) items

-- and of the node to which a cut is that keeps it
abbrev pub items_by_nodes : ℕ → List Level → Groups → List (Item ℕ) → List (Item ℕ)
items_by_nodes next levels gs items = map (renamed_item (choice_scope next levels gs) (λ n. choice_scope next levels gs (suc n))) items

abbrev pub ChoicesAreScopes : Type 0
ChoicesAreScopes = (next : ℕ) (levels : List Level) (gs : Groups) (n : ℕ)
    → placed_scope next (node_sizes gs) levels (choice_height (length levels) gs n) ≡ choice_scope next levels gs n

-- by the nodes that the groups become, heights are named as the choice points are
abbrev pub ItemsAreNamed : Type 0
ItemsAreNamed = (next : ℕ) (levels : List Level) (gs : Groups) (items : List (Item ℕ)) → Each (IsOverChoices (length levels) gs) items →
    let name = placed_scope next (node_sizes gs) levels in
    map (renamed_item name (λ h. name (suc h))) (items_by_heights (length levels) gs items) ≡ items_by_nodes next levels gs items

-- an item that has numbers up to one
abbrev pub HasNumbersUpTo : ℕ → Item ℕ → Type 0
HasNumbersUpTo n (GoalItem t c) = c ≤ n
HasNumbersUpTo n (CatchMark c) = c ≤ n
HasNumbersUpTo n (CollectMark t c) = c ≤ n
HasNumbersUpTo n (RemovalItem number) = Unit {0}

-- where heights are known otherwise
abbrev pub ItemsHaveHeights : Type 0
ItemsHaveHeights = (floor : ℕ) (gs : Groups) (n : ℕ) (height : ℕ → ℕ) (items : List (Item ℕ)) → ((c : ℕ) → c ≤ n → height c ≡ choice_height floor gs c)
    → Each (HasNumbersUpTo n) items → map (renamed_item height height) items ≡ items_by_heights floor gs items

-- no cut splits a group
abbrev pub ItemsAreWhole : Type 0
ItemsAreWhole = (floor : ℕ) (gs : Groups) (items : List (Item ℕ)) → Each (IsWholeHeight floor gs) (cuts_of_items (items_by_heights floor gs items))
