-- Numbers of choice points as heights and as nodes.
use Rattle.std.proofs.Common.{◌≡◌, inl, inr, ℕ, suc, ◌-◌, ◌<◌, ◌≤◌, Bool, true, false, cond, nat_le, List, [], ◌∷◌, length, map, refl, sym, ap, ap₂, ◌∙◌, arith}
use Rattle.std.proofs.lemmas.Bool.Decides.{nat_tests}
use Rattle.au_model.specs.Terms.Each.{Each}
use Rattle.run_model.specs.Machine.Items.{Item, GoalItem, CatchMark, CollectMark, RemovalItem}
use Rattle.tree_model.specs.Floors.{node_of, renamed_item}
use Rattle.tree_model.specs.Levels.{Level}
use Rattle.tree_model.specs.Shapes.{placed_scope}
use Rattle.branch_shapes.specs.Groups.{Groups, height_kept, node_sizes, scope_kept}
use Rattle.branch_shapes.specs.GroupLaws.{IsWholeHeight}
use Rattle.branch_shapes.specs.ChoiceScopes.{choice_height, choice_scope, CanBeMarked, IsOverChoices, items_by_heights, items_by_nodes}
use Rattle.branch_shapes.specs.ChoiceScopes.{HasNumbersUpTo, ChoicesAreScopes, ItemsAreNamed, ItemsHaveHeights, ItemsAreWhole}
use Rattle.branch_shapes.proofs.GroupScopeLemmas.{groups_are_scopes, floors_are_scopes, guards_are_scopes}

-- of the floor, or over it
module _ (floor : ℕ) (gs : Groups) (n : ℕ) where
  pub low_height : n ≤ floor → choice_height floor gs n ≡ n
  low_height le = by_test (nat_le n floor) refl
    where
      by_test : (t : Bool) → nat_le n floor ≡ t → cond t n (height_kept floor gs (n - floor)) ≡ n
      by_test true q = refl
      by_test false q = let lt : floor < n = grind (arith, nat_tests) in absurd (omega arith)

  pub high_height : floor ≤ n → choice_height floor gs n ≡ height_kept floor gs (n - floor)
  high_height le = by_test (nat_le n floor) refl
    where
      by_test : (t : Bool) → nat_le n floor ≡ t → cond t n (height_kept floor gs (n - floor)) ≡ height_kept floor gs (n - floor)
      by_test true q =
          let ge : n ≤ floor = grind (arith, nat_tests) in
          let none : n - floor ≡ 0 = omega arith in
          let here : n ≡ height_kept floor gs 0 = omega arith in
          here ∙ ap (height_kept floor gs) (sym none)
      by_test false q = refl

module _ (next : ℕ) (levels : List Level) (gs : Groups) (n : ℕ) where
  pub low_scope : n ≤ length levels → choice_scope next levels gs n ≡ node_of levels n
  low_scope le = by_test (nat_le n (length levels)) refl
    where
      by_test : (t : Bool) → nat_le n (length levels) ≡ t → cond t (node_of levels n) (scope_kept next levels gs (n - length levels)) ≡ node_of levels n
      by_test true q = refl
      by_test false q = let lt : length levels < n = grind (arith, nat_tests) in absurd (omega arith)

  high_scope : length levels < n → choice_scope next levels gs n ≡ scope_kept next levels gs (n - length levels)
  high_scope lt = by_test (nat_le n (length levels)) refl
    where
      by_test : (t : Bool) → nat_le n (length levels) ≡ t
          → cond t (node_of levels n) (scope_kept next levels gs (n - length levels)) ≡ scope_kept next levels gs (n - length levels)
      by_test true q = let le : n ≤ length levels = grind (arith, nat_tests) in absurd (omega arith)
      by_test false q = refl

module _ (next : ℕ) (levels : List Level) (gs : Groups) where
  abbrev name : ℕ → ℕ
  name = placed_scope next (node_sizes gs) levels

  abbrev height : ℕ → ℕ
  height = choice_height (length levels) gs

  abbrev scope : ℕ → ℕ
  scope = choice_scope next levels gs

  pub cut_named : (n : ℕ) → name (height n) ≡ scope n
  cut_named n = by_test (nat_le n (length levels)) refl
    where
      by_test : (t : Bool) → nat_le n (length levels) ≡ t → name (height n) ≡ scope n
      by_test true q =
          let le : n ≤ length levels = grind (arith, nat_tests) in
          ap name (low_height (length levels) gs n le) ∙ (floors_are_scopes next (node_sizes gs) levels n le ∙ sym (low_scope next levels gs n le))
      by_test false q =
          let lt : length levels < n = grind (arith, nat_tests) in
          ap name (high_height (length levels) gs n (omega arith))
          ∙ (groups_are_scopes next levels gs (n - length levels) ∙ sym (high_scope next levels gs n lt))

  mark_named : (n : ℕ) → CanBeMarked (length levels) gs n → name (suc (height n)) ≡ scope (suc n)
  mark_named n (inl lt) =
      let one : height n ≡ n = low_height (length levels) gs n (omega arith) in
      ap (λ h. name (suc h)) one ∙ (floors_are_scopes next (node_sizes gs) levels (suc n) (omega arith) ∙ sym (low_scope next levels gs (suc n) (omega arith)))
  mark_named n (inr k) =
      let le : length levels ≤ n = k.0 in
      let left : suc (n - length levels) ≡ suc n - length levels = omega arith in
      ap (λ h. name (suc h)) (high_height (length levels) gs n le)
      ∙ (ap name (guards_are_scopes (length levels) gs (n - length levels) k.1.entry k.1.is)
      ∙ (groups_are_scopes next levels gs (suc (n - length levels))
      ∙ (ap (scope_kept next levels gs) left ∙ sym (high_scope next levels gs (suc n) (omega arith)))))

  item_named : (i : Item ℕ) → IsOverChoices (length levels) gs i
      → renamed_item name (λ h. name (suc h)) (renamed_item height height i) ≡ renamed_item scope (λ n. scope (suc n)) i
  item_named (GoalItem t n) h = ap (GoalItem t) (cut_named n)
  item_named (CatchMark n) h = ap CatchMark (mark_named n h)
  item_named (CollectMark t n) h = ap (CollectMark t) (mark_named n h)
  item_named (RemovalItem number) h = refl

  items_named : (items : List (Item ℕ)) → Each (IsOverChoices (length levels) gs) items
      → map (renamed_item name (λ h. name (suc h))) (items_by_heights (length levels) gs items) ≡ items_by_nodes next levels gs items
  items_named [] h = refl
  items_named (i ∷ items) h = ap₂ (λ j js. j ∷ js) (item_named i h.0) (items_named items h.1)

pub choices_are_scopes : ChoicesAreScopes
choices_are_scopes next levels gs n = cut_named next levels gs n

pub items_are_named : ItemsAreNamed
items_are_named next levels gs items h = items_named next levels gs items h

module _ (floor : ℕ) (gs : Groups) (n : ℕ) (height : ℕ → ℕ) (same : (c : ℕ) → c ≤ n → height c ≡ choice_height floor gs c) where
  item_height : (i : Item ℕ) → HasNumbersUpTo n i → renamed_item height height i ≡ renamed_item (choice_height floor gs) (choice_height floor gs) i
  item_height (GoalItem t c) le = ap (GoalItem t) (same c le)
  item_height (CatchMark c) le = ap CatchMark (same c le)
  item_height (CollectMark t c) le = ap (CollectMark t) (same c le)
  item_height (RemovalItem number) h = refl

  item_heights : (items : List (Item ℕ)) → Each (HasNumbersUpTo n) items → map (renamed_item height height) items ≡ items_by_heights floor gs items
  item_heights [] h = refl
  item_heights (i ∷ items) h = ap₂ (λ j js. j ∷ js) (item_height i h.0) (item_heights items h.1)

pub items_have_heights : ItemsHaveHeights
items_have_heights floor gs n height items same h = item_heights floor gs n height same items h

whole_height : (floor : ℕ) (gs : Groups) (n : ℕ) → IsWholeHeight floor gs (choice_height floor gs n)
whole_height floor gs n = by_test (nat_le n floor) refl
  where
    by_test : (t : Bool) → nat_le n floor ≡ t → IsWholeHeight floor gs (choice_height floor gs n)
    by_test true q = let le : n ≤ floor = grind (arith, nat_tests) in let same = low_height floor gs n le in inl (omega arith)
    by_test false q = let lt : floor < n = grind (arith, nat_tests) in inr (record { groups = n - floor; is = high_height floor gs n (omega arith) })

pub items_are_whole : ItemsAreWhole
items_are_whole floor gs [] = tt
items_are_whole floor gs (GoalItem t n ∷ items) = (whole_height floor gs n, items_are_whole floor gs items)
items_are_whole floor gs (CatchMark n ∷ items) = items_are_whole floor gs items
items_are_whole floor gs (CollectMark t n ∷ items) = items_are_whole floor gs items
items_are_whole floor gs (RemovalItem number ∷ items) = items_are_whole floor gs items
