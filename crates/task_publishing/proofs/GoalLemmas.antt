-- What the goals of a branch mean: the items of an alternative, with those that were deferred.
use Rattle.std.proofs.Common.{◌≡◌, ℕ, zero, suc, ◌≤◌, nat_le, true, List, [], ◌∷◌, ◌++◌, append-nil, drop, refl, sym, ap, ap₂, ◌∙◌, arith}
use Rattle.std.proofs.lemmas.Bool.Decides.{nat_tests}
use Rattle.std.proofs.lemmas.List.{drop-map}
use Rattle.std.specs.List.{list_all}
use Rattle.au_model.specs.Terms.Each.{Each}
use Rattle.au_term.proofs.LogicLemmas.{and-both, and-left, and-right, le_by}
use Rattle.au_model.proofs.EachLemmas.{each-append, each-drop}
use Rattle.run_model.specs.Machine.Items.{Item, GoalItem, CatchMark, CollectMark, RemovalItem}
use Rattle.clause_compile.specs.declared.item.Item.{Item as BranchItem}
use Rattle.clause_compile.specs.declared.item.Item.TheVariants.{Goal, CatchEnd, Collect, Remove, End}
use Rattle.region_floor.specs.Deferred.{joined_items}
use Rattle.branch_reading.specs.Readings.{items_meant}
use Rattle.branch_reading.specs.SettledWays.{is_term_below, is_item_settled}
use Rattle.branch_shapes.specs.ChoiceScopes.{IsOverChoices, choice_scope, items_by_nodes}
use Rattle.branch_shapes.specs.FloorItems.{NamesLevels, items_over_floor, StayOverFloor}
use Rattle.branch_shapes.specs.MeantBranches.{Placement, floor_in}
use Rattle.branch_shapes.proofs.FloorItemLemmas.{floor_items_stay}
use Rattle.tree_model.specs.Floors.{renamed_item}
use Rattle.region_capture.specs.CapturedItems.{IsItemOver}
use Rattle.task_publishing.specs.BranchGoals.{branch_goals}
use Rattle.task_publishing.specs.PublishedRuns.{EndsDeferred}

le_test : (a b : ℕ) → a ≤ b → nat_le a b ≡ true
le_test a b le = grind (arith, nat_tests)

-- what is left of settled goals
drop_meant : (base k : ℕ) (xs : List BranchItem) → list_all (is_item_settled base) xs ≡ true → drop k (items_meant xs) ≡ items_meant (drop k xs)
drop_meant base zero [] s = refl
drop_meant base zero (x ∷ xs) s = refl
drop_meant base (suc k) [] s = refl
drop_meant base (suc k) (Goal t c ∷ xs) s = drop_meant base k xs (and-right (is_item_settled base (Goal t c)) (list_all (is_item_settled base) xs) s)
drop_meant base (suc k) (CatchEnd c ∷ xs) s = drop_meant base k xs (and-right (is_item_settled base (CatchEnd c)) (list_all (is_item_settled base) xs)
    s)
drop_meant base (suc k) (Collect t c ∷ xs) s = drop_meant base k xs (and-right (is_item_settled base (Collect t c))
    (list_all (is_item_settled base) xs)
    s)
drop_meant base (suc k) (Remove n ∷ xs) s = drop_meant base k xs (and-right (is_item_settled base (Remove n)) (list_all (is_item_settled base) xs) s)
drop_meant base (suc k) (End b ∷ xs) s = absurd cc

drop_settled : (base k : ℕ) (xs : List BranchItem) → list_all (is_item_settled base) xs ≡ true → list_all (is_item_settled base) (drop k xs) ≡ true
drop_settled base zero [] s = refl
drop_settled base zero (x ∷ xs) s = s
drop_settled base (suc k) [] s = refl
drop_settled base (suc k) (x ∷ xs) s = drop_settled base k xs (and-right (is_item_settled base x) (list_all (is_item_settled base) xs) s)

below_more : (base next n : ℕ) → base ≤ next → nat_le n base ≡ true → nat_le n next ≡ true
below_more base next n le t = le_test n next (let h = le_by n base t in omega (arith, h, le))

item_more : (base next : ℕ) (x : BranchItem) → base ≤ next → is_item_settled base x ≡ true → is_item_settled next x ≡ true
item_more base next (Goal t c) le s = below_more base next _ le s
item_more base next (CatchEnd c) le s = refl
item_more base next (Collect t c) le s = below_more base next _ le s
item_more base next (Remove n) le s = refl
item_more base next (End b) le s = s

pub settled_more : (base next : ℕ) (xs : List BranchItem) → base ≤ next → list_all (is_item_settled base) xs ≡ true
    → list_all (is_item_settled next) xs ≡ true
settled_more base next [] le s = refl
settled_more base next (x ∷ xs) le s =
    and-both (is_item_settled next x) (list_all (is_item_settled next) xs) (item_more base next x le
    (and-left (is_item_settled base x) (list_all (is_item_settled base) xs) s))
    (settled_more base next xs le (and-right (is_item_settled base x) (list_all (is_item_settled base) xs) s))

-- goals of an alternative
module _ (p : Placement) (deferred : List BranchItem) (base : ℕ) (scope : ℕ → ℕ) (scoped : (n : ℕ)
    → scope n ≡ choice_scope p.number p.levels p.groups n) (names : Each (NamesLevels p.levels) (items_meant deferred))
    (settled : list_all (is_item_settled base) deferred ≡ true) where
  abbrev stay : StayOverFloor p.number p.levels p.groups (items_meant deferred)
  stay = floor_items_stay p.number p.levels p.groups (items_meant deferred) names

  abbrev over_floor : List (Item ℕ)
  over_floor = items_over_floor p.levels (items_meant deferred)

  abbrev by_nodes : List (Item ℕ) → List (Item ℕ)
  by_nodes = items_by_nodes p.number p.levels p.groups

  deferred_meant : (k : ℕ) → items_meant (drop k deferred) ≡ by_nodes (drop k over_floor)
  deferred_meant k =
      sym (drop_meant base k deferred settled) ∙ (ap (λ xs. drop k xs) (sym stay.nodes)
      ∙ drop-map (renamed_item (choice_scope p.number p.levels p.groups) (λ n. choice_scope p.number p.levels p.groups (suc n))) k over_floor)

  pub goals_meant : (xs : List (Item ℕ)) → EndsDeferred xs → items_meant (branch_goals scope deferred xs) ≡ by_nodes (joined_items over_floor xs)
  goals_meant [] l = refl
  goals_meant (GoalItem t n ∷ xs) l = ap₂ (λ s (items : List (Item ℕ)). GoalItem t s ∷ items) (scoped n) (goals_meant xs l)
  goals_meant (CatchMark n ∷ xs) l = ap₂ (λ s (items : List (Item ℕ)). CatchMark s ∷ items) (scoped (suc n)) (goals_meant xs l)
  goals_meant (CollectMark t n ∷ xs) l = ap₂ (λ s (items : List (Item ℕ)). CollectMark t s ∷ items) (scoped (suc n)) (goals_meant xs l)
  goals_meant (RemovalItem k ∷ xs) l =
      deferred_meant k ∙ ap by_nodes (sym (append-nil (drop k over_floor)) ∙ ap (λ (items : List (Item ℕ)). drop k over_floor ++ joined_items
      over_floor
      items) (sym l))

  pub goals_settled : (next cut : ℕ) (xs : List (Item ℕ)) → base ≤ next → Each (IsItemOver next cut) xs
      → list_all (is_item_settled next) (branch_goals scope deferred xs) ≡ true
  goals_settled next cut [] le e = refl
  goals_settled next cut (GoalItem t n ∷ xs) le e =
      and-both (is_term_below next t) (list_all (is_item_settled next) (branch_goals scope deferred xs)) (le_test _ next e.0.0)
      (goals_settled next cut xs le e.1)
  goals_settled next cut (CatchMark n ∷ xs) le e = goals_settled next cut xs le e.1
  goals_settled next cut (CollectMark t n ∷ xs) le e =
      and-both (is_term_below next t) (list_all (is_item_settled next) (branch_goals scope deferred xs)) (le_test _ next e.0.0)
      (goals_settled next cut xs le e.1)
  goals_settled next cut (RemovalItem k ∷ xs) le e = settled_more base next (drop k deferred) le (drop_settled base k deferred settled)

  pub joined_over : (xs : List (Item ℕ)) → Each (IsOverChoices (floor_in p) p.groups) xs
      → Each (IsOverChoices (floor_in p) p.groups) (joined_items over_floor xs)
  joined_over [] e = tt
  joined_over (GoalItem t n ∷ xs) e = (e.0, joined_over xs e.1)
  joined_over (CatchMark n ∷ xs) e = (e.0, joined_over xs e.1)
  joined_over (CollectMark t n ∷ xs) e = (e.0, joined_over xs e.1)
  joined_over (RemovalItem k ∷ xs) e =
      each-append (IsOverChoices (floor_in p) p.groups) (drop k over_floor) (joined_items over_floor xs)
      (each-drop (IsOverChoices (floor_in p) p.groups) k over_floor stay.over) (joined_over xs e.1)
