-- Heights by places.
use Rattle.std.proofs.Common.{◌≡◌, ◌⊎◌, inl, inr, ℕ, suc, zero, ◌-◌, ◌<◌, ◌≤◌, ◌==◌, Bool, true, false, cond, nat_lt, List, [], ◌∷◌, ◌++◌, map, length, slice_index_or, refl, sym, ap, ap₂, ◌∙◌, arith}
use Rattle.std.proofs.lemmas.Bool.{cases_lt, eq-eqb}
use Rattle.std.proofs.lemmas.List.{length-map}
use Rattle.std.specs.List.Sorted.{IsPartitionPoint, IsPartitionedBy}
use Rattle.tree_model.specs.EventViews.{place_view}
use Rattle.tree_model.specs.declared.places.AltRef.{AltRef}
use Rattle.std.proofs.lemmas.Bool.Decides.{nat_tests}
use Rattle.au_term.proofs.LogicLemmas.{less, not_lt_by}
use Rattle.au_model.proofs.UnifierRuleLemmas.{below}
use Rattle.au_model.specs.Terms.Each.{Each}
use Rattle.clause_compile.specs.declared.item.Item.{Item as BranchItem}
use Rattle.clause_compile.specs.declared.item.Item.TheVariants.{Goal, CatchEnd, Collect, Remove, End}
use Rattle.run_model.specs.Machine.Items.{Item, GoalItem, CatchMark, CollectMark, RemovalItem}
use Rattle.tree_model.specs.Floors.{renamed_item, height_of}
use Rattle.tree_model.specs.Levels.{Level, Place, place_at}
use Rattle.branch_reading.specs.Readings.{items_meant}
use Rattle.task_region.specs.PlacesUp.{AreFallingPlaces}
use Rattle.task_region.specs.ScopeHeights.{height_among, items_over}

pub length-places : (levels : List Level) → length (map place_at levels) ≡ length levels
length-places [] = refl
length-places (v ∷ levels) = ap suc (length-places levels)

-- the height among the places of levels is that among levels
pub heights_same : (levels : List Level) (s : ℕ) → height_among (map place_at levels) s ≡ height_of levels s
heights_same [] s = refl
heights_same (v ∷ levels) s = ap₂ (cond (v.number == s)) (ap suc (length-places levels)) (heights_same levels s)

renamed_same : (levels : List Level) (i : Item ℕ)
    → renamed_item (height_among (map place_at levels)) (λ s. height_among (map place_at levels) s - 1) i ≡ renamed_item (height_of levels)
    (λ s. height_of levels s - 1) i
renamed_same levels (GoalItem t s) = ap (GoalItem t) (heights_same levels s)
renamed_same levels (CatchMark s) = ap (λ h. CatchMark (h - 1)) (heights_same levels s)
renamed_same levels (CollectMark t s) = ap (λ h. CollectMark t (h - 1)) (heights_same levels s)
renamed_same levels (RemovalItem number) = refl

map_same : {A B : Type 0} (f g : A → B) → ((a : A) → f a ≡ g a) → (xs : List A) → map f xs ≡ map g xs
map_same f g h [] = refl
map_same f g h (x ∷ xs) = ap₂ (λ y ys. y ∷ ys) (h x) (map_same f g h xs)

pub items_same : (levels : List Level) (items : List BranchItem)
    → items_over (map place_at levels) items ≡ map (renamed_item (height_of levels) (λ s. height_of levels s - 1)) (items_meant items)
items_same levels items = map_same _ _ (renamed_same levels) (items_meant items)

-- no scope is higher than the branch
pub height-within : (places : List Place) (s : ℕ) → height_among places s ≤ length places
height-within [] s = omega arith
height-within (p ∷ places) s = by_test (p.node == s) (height-within places s)
  where
    by_test : (b : Bool) → height_among places s ≤ length places → cond b (suc (length places)) (height_among places s) ≤ suc (length places)
    by_test true h = omega arith
    by_test false h = omega arith

-- places that fall, by their indexes
each_index : (xs : List AltRef) (n : ℕ) → Each (λ q. q.node < n) (map place_view xs) → (j : ℕ) (d : AltRef) → j < length xs → (slice_index_or xs j d).node < n
each_index [] n h j d l = absurd (omega arith)
each_index (x ∷ xs) n h zero d l = h.0
each_index (x ∷ xs) n h (suc j) d l = each_index xs n h.1 j d (omega arith)

fall_at : (xs : List AltRef) → AreFallingPlaces (map place_view xs) → (i j : ℕ) (d : AltRef) → i < j → j < length xs
    → (slice_index_or xs j d).node < (slice_index_or xs i d).node
fall_at [] h i j d l m = absurd (omega arith)
fall_at (x ∷ xs) h i zero d l m = absurd (omega arith)
fall_at (x ∷ xs) h zero (suc j) d l m = each_index xs x.node h.0 j d (omega arith)
fall_at (x ∷ xs) h (suc i) (suc j) d l m = fall_at xs h.1 i j d (omega arith) (omega arith)

pub number_other : (m n : ℕ) → (m ≡ n → ⊥) → (m == n) ≡ false
number_other m n h = grind (arith, nat_tests)

pub fall_parted : (s : ℕ) (xs : List AltRef) → AreFallingPlaces (map place_view xs) → IsPartitionedBy (λ (a : AltRef). nat_lt s a.node) xs
fall_parted s xs h i j d l m e = by_order (cases_lt i j)
  where
    by_order : (i < j) ⊎ (j ≤ i) → nat_lt s (slice_index_or xs i d).node ≡ true
    by_order (inl k) =
        let first = below s (slice_index_or xs j d).node e in
        let fall = fall_at xs h i j d k m in
        less s (slice_index_or xs i d).node (omega (arith, first, fall))
    by_order (inr k) = let same : i ≡ j = omega arith in ap (λ n. nat_lt s (slice_index_or xs n d).node) same ∙ e

-- where a search has come to
abbrev pub IsSplitAt : ℕ → List AltRef → ℕ → Type 0
IsSplitAt s xs at = IsPartitionPoint (λ (a : AltRef). nat_lt s a.node ≡ true) (λ (a : AltRef). nat_lt s a.node ≡ false) xs at

module _ (d : AltRef) where
  height_down : (xs : List AltRef) (at s : ℕ) → ((k : ℕ) → k < at → s < (slice_index_or xs k d).node) → at < length xs → (slice_index_or xs at d).node ≡ s
      → height_among (map place_view xs) s ≡ length xs - at
  height_down [] at s before l e = absurd (omega arith)
  height_down (x ∷ xs) zero s before l e =
      ap (λ b. cond b (suc (length (map place_view xs))) (height_among (map place_view xs) s)) (eq-eqb x.node s e)
      ∙ (let m : length (map place_view xs) ≡ length xs = length-map xs place_view in omega arith)
  height_down (x ∷ xs) (suc at) s before l e =
      let other : (x.node == s) ≡ false = number_other x.node s (λ f. let b = before 0 (omega arith) in omega (arith, b, f)) in
      ap (λ b. cond b (suc (length (map place_view xs))) (height_among (map place_view xs) s)) other
      ∙ (height_down xs at s (λ k m. before (suc k) (omega arith)) (omega arith) e ∙ omega arith)

  height_missing : (xs : List AltRef) (s : ℕ) → ((k : ℕ) → k < length xs → (slice_index_or xs k d).node ≡ s → ⊥) → height_among (map place_view xs) s ≡ 0
  height_missing [] s none = refl
  height_missing (x ∷ xs) s none =
      ap (λ b. cond b (suc (length (map place_view xs))) (height_among (map place_view xs) s)) (number_other x.node s (none 0 (omega arith)))
      ∙ height_missing xs s (λ k l e. none (suc k) (omega arith) e)

  module _ (xs : List AltRef) (at s : ℕ) (split : IsSplitAt s xs at) where
    pub height_found : at < length xs → (slice_index_or xs at d).node ≡ s → length xs - at ≡ height_among (map place_view xs) s
    height_found l e = sym (height_down xs at s (λ k m. below s (slice_index_or xs k d).node (split.0 k d (omega arith) m)) l e)

    module _ (falls : AreFallingPlaces (map place_view xs)) (apart : at < length xs → (slice_index_or xs at d).node ≡ s → ⊥) where
      after : (k : ℕ) → at < k → k < length xs → (slice_index_or xs k d).node ≡ s → ⊥
      after k m l e =
          let here = not_lt_by s (slice_index_or xs at d).node (split.1 at d (omega arith) (omega arith)) in
          let fall = fall_at xs falls at k d m l in
          omega (arith, here, fall, e)

      from_at : (k : ℕ) → k < length xs → (slice_index_or xs k d).node ≡ s → (at < k) ⊎ (k ≤ at) → at ≤ k → ⊥
      from_at k l e (inl m) n = after k m l e
      from_at k l e (inr m) n = let same : at ≡ k = omega arith in apart (omega arith) (ap (λ i. (slice_index_or xs i d).node) same ∙ e)

      none : (k : ℕ) → k < length xs → (slice_index_or xs k d).node ≡ s → ⊥
      none k l e = elim (cases_lt k at) [
        | inl m ↦ let before = below s (slice_index_or xs k d).node (split.0 k d (omega arith) m) in omega (arith, before, e)
        | inr m ↦ from_at k l e (cases_lt at k) m
      ]

      pub height_none : 0 ≡ height_among (map place_view xs) s
      height_none = sym (height_missing xs s none)

-- item by item
pub items-cons : (places : List Place) (i : BranchItem) (items : List BranchItem)
    → items_over places (i ∷ items) ≡ items_over places (i ∷ []) ++ items_over places items
items-cons places (Goal t s) items = refl
items-cons places (CatchEnd s) items = refl
items-cons places (Collect t s) items = refl
items-cons places (Remove n) items = refl
items-cons places (End ball) items = refl
