-- The free steps by names are the free steps by heights.
use Rattle.std.proofs.Common.{◌≡◌, ℕ, zero, suc, ◌≤◌, List, [], ◌∷◌, map, length, refl, sym, ap, ◌∙◌, subst, arith}
use Rattle.std.specs.Prelude.{codes}
use Rattle.au_term.specs.Term.{Term}
use Rattle.au_model.specs.Terms.Each.{Each}
use Rattle.au_model.specs.Terms.Forms.{binary, list_term}
use Rattle.run_model.specs.Programs.Clauses.{Clause}
use Rattle.run_model.specs.Goals.GoalOutcomes.{outcome_of}
use Rattle.run_model.specs.Machine.Items.{Item, GoalItem, CatchMark, CollectMark, RemovalItem, Continuation, with_items, before}
use Rattle.run_model.specs.Machine.Items.{without_marks}
use Rattle.run_model.specs.Machine.Entries.{PlainEntry}
use Rattle.interleaving.specs.Machine.{Machine, Drops, Becomes, Infers, AsksWorld, gives, freed, free_steps}
use Rattle.tree_model.specs.Elements.{Name, Record, Element, Credit, Plain, EndOf, Catch, Findall, End}
use Rattle.interleaving.specs.Scopes.{Shared, Sought, Does, unmarked, results_first, act, scoped}
use Rattle.interleaving.specs.Segments.{IsActive}
use Rattle.interleaving.specs.HeightMachine.{HeightElement, HeightEntry, height_collected_all, height_findall_ends, height_plain_free_step}
use Rattle.interleaving.specs.HeightMachine.{height_free_steps_within, height_at_rest}
use Rattle.interleaving.specs.Erased.{element_count, height, with_height, continuation_heights, record_height, erased}
use Rattle.interleaving.specs.Sound.{names, IsGathered, IsEntrySound, IsSound}
use Rattle.interleaving.proofs.RunFrontLemmas.{map-none, take_free-map}
use Rattle.interleaving.proofs.NamingLemmas.{goals-heights, length-erased, sames, carried_rest}
use Rattle.interleaving.proofs.GivenHeightLemmas.{gathered-gives, sound-gives, count-gives}
use Rattle.interleaving.proofs.InsideStepLemmas.{goal-active}

pub length-map : {A B : Type 0} → (f : A → B) (xs : List A) → length (map f xs) ≡ length xs
length-map f [] = refl
length-map f (x ∷ xs) = ap suc (length-map f xs)

pub marks-heights : (h : Name → ℕ) (items : List (Item Name)) → without_marks (map (with_height h) items)
    ≡ map (with_height h) (without_marks items)
marks-heights h [] = refl
marks-heights h (GoalItem t s ∷ items) = refl
marks-heights h (CatchMark s ∷ items) = marks-heights h items
marks-heights h (CollectMark t s ∷ items) = refl
marks-heights h (RemovalItem n ∷ items) = refl

module _ (clauses : List Clause) where
  abbrev m : Machine Shared Element Sought Record
  m = scoped clauses

  -- no free step is left in front
  abbrev pub IsRested : List Element → Type 0
  IsRested [] = Unit {0}
  IsRested (x ∷ xs) = IsActive (act clauses x)

  -- what the free steps lead to
  abbrev pub IsFreed : List Element → List HeightElement → Type 0
  IsFreed zs hs = (erased zs ≡ hs) × IsSound zs × IsRested zs

  freed-active : (a : Does) (x : Element) (go : List Record → List Element) (xs : List Element) → IsActive a → freed m a x go xs ≡ x ∷ xs
  freed-active (Drops rs) x go xs h = absurd h
  freed-active (Becomes y) x go xs h = absurd h
  freed-active (Infers p) x go xs h = refl
  freed-active (AsksWorld g) x go xs h = refl

  -- a plain entry with these items after its catch marks
  abbrev plain_free : List (Item Name) → Name → Continuation Name → List Element → List Element
  plain_free (CollectMark t s ∷ items) p f xs = free_steps m ((s, t) ∷ []) xs
  plain_free items p f xs = Plain p (with_items items f) ∷ map (gives m []) xs

  unmarked-free : (items old : List (Item Name)) (x : Element) (p : Name) (f : Continuation Name) (xs : List Element)
      → freed m (unmarked items p (with_items old f)) x (λ new. free_steps m new xs) (map (gives m []) xs) ≡ plain_free items p f xs
  unmarked-free [] old x p f xs = refl
  unmarked-free (GoalItem t s ∷ items) old x p f xs = refl
  unmarked-free (CatchMark s ∷ items) old x p f xs = refl
  unmarked-free (CollectMark t s ∷ items) old x p f xs = refl
  unmarked-free (RemovalItem n ∷ items) old x p f xs = refl

  item-free : (items : List (Item Name)) (p : Name) (f : Continuation Name) (xs : List Element)
      → free_steps m [] (Plain p (with_items items f) ∷ xs) ≡ plain_free (without_marks items) p f xs
  item-free [] p f xs = refl
  item-free (GoalItem g h ∷ items) p f xs = freed-active (act clauses (Plain p (with_items (GoalItem g h ∷ items) f)))
      (Plain p (with_items (GoalItem g h ∷ items) f)) (λ new. free_steps m new xs) (map (gives m []) xs)
      (goal-active clauses (outcome_of clauses g f.next) p h (with_items items f))
  item-free (CatchMark s ∷ items) p f xs = unmarked-free (without_marks items) (CatchMark s ∷ items)
      (Plain p (with_items (CatchMark s ∷ items) f)) p f xs
  item-free (CollectMark t s ∷ items) p f xs = refl
  item-free (RemovalItem n ∷ items) p f xs = refl

  stays : (x : Element) (xs : List Element) (hs : List HeightElement) → erased (x ∷ xs) ≡ hs → IsSound (x ∷ xs)
      → IsActive (act clauses x) → IsFreed (x ∷ map (gives m []) xs) hs
  stays x xs hs e i a = subst (λ l. IsFreed (x ∷ l) hs) (sym (map-none m xs)) (e, i, a)

  -- the free steps of what lies under
  abbrev Later : List Element → ℕ → Type 0
  Later xs j = (rs : List Record) → Each (λ o. IsGathered xs o.0) rs
      → IsFreed (free_steps m rs xs) (height_free_steps_within j (height_collected_all (map (record_height xs) rs) (erased xs)))

  plain-freed : (items : List (Item Name)) (p : Name) (f : Continuation Name) (xs : List Element) (j : ℕ) → Later xs j → IsSound xs
      → IsEntrySound p xs (names items) items → IsFreed (plain_free (without_marks items) p f xs)
      (height_plain_free_step (map (with_height (height xs)) (without_marks items)) (continuation_heights (height xs) f) (erased xs)
      (height_free_steps_within j))
  plain-freed [] p f xs j next i s = stays (Plain p (with_items [] f)) xs _ refl (s, i) tt
  plain-freed (GoalItem g h ∷ items) p f xs j next i s = stays (Plain p (with_items (GoalItem g h ∷ items) f)) xs _ refl (s, i)
      (goal-active clauses (outcome_of clauses g f.next) p h (with_items items f))
  plain-freed (CatchMark k ∷ items) p f xs j next i s = plain-freed items p f xs j next i
      (record { carried = carried_rest p xs k (names items) s.carried; marks = s.marks.1; findalls = s.findalls })
  plain-freed (CollectMark t k ∷ items) p f xs j next i s = next ((k, t) ∷ []) (s.marks.0, tt)
  plain-freed (RemovalItem n ∷ items) p f xs j next i s = stays (Plain p (with_items (RemovalItem n ∷ items) f)) xs _ refl (s, i) tt

  later : (xs : List Element) (j : ℕ)
      → ((ys : List Element) → length ys ≤ length xs → IsSound ys → element_count ys ≤ j
      → IsFreed (free_steps m [] ys) (height_free_steps_within j (erased ys))) → IsSound xs → element_count xs ≤ j → Later xs j
  later xs j ih i c rs g =
      let ys : List Element = map (gives m rs) xs in
      let fine : IsFreed (free_steps m [] ys) (height_free_steps_within j (erased ys)) = ih ys (omega (arith, length-map (gives m rs) xs))
      (sound-gives clauses rs xs i) (omega (arith, count-gives clauses rs xs)) in
      subst (λ l. IsFreed l (height_free_steps_within j (height_collected_all (map (record_height xs) rs) (erased xs))))
      (sym (take_free-map m rs xs))
      (subst (λ hs. IsFreed (free_steps m [] ys) (height_free_steps_within j hs)) (gathered-gives clauses rs xs i g) fine)

  takes_free : (n : ℕ) (xs : List Element) → length xs ≤ n → IsSound xs → (j : ℕ) → element_count xs ≤ j
      → IsFreed (free_steps m [] xs) (height_free_steps_within j (erased xs))
  takes_free n [] h i zero c = (refl, tt, tt)
  takes_free n [] h i (suc j) c = (refl, tt, tt)
  takes_free zero (x ∷ xs) h i j c = absurd (omega arith)
  takes_free (suc n) (EndOf e ∷ xs) h i j c = takes_free n xs (omega arith) i j c
  takes_free (suc n) (Credit k rs ∷ xs) h i zero c = absurd (omega arith)
  takes_free (suc n) (Credit zero rs ∷ xs) h i (suc j) c = later xs j (λ ys l s d. takes_free n ys (omega arith) s j d) i.1 (omega arith) rs i.0
  takes_free (suc n) (Credit (suc k) rs ∷ xs) h i (suc j) c = stays (Credit (suc k) rs) xs _ refl i tt
  takes_free (suc n) (Plain p f ∷ xs) h i zero c = absurd (omega arith)
  takes_free (suc n) (Plain p f ∷ xs) h i (suc j) c =
      let go : IsFreed (plain_free (without_marks f.items) p f xs)
      (height_plain_free_step (map (with_height (height xs)) (without_marks f.items)) (continuation_heights (height xs) f) (erased xs)
      (height_free_steps_within j)) = plain-freed f.items p f xs j
      (later xs j (λ ys l s d. takes_free n ys (omega arith) s j d) i.1 (omega arith)) i.1 i.0 in
      subst (λ l. IsFreed l (height_free_steps_within (suc j) (erased (Plain p f ∷ xs)))) (sym (item-free f.items p f xs))
      (subst (λ is. IsFreed (plain_free (without_marks f.items) p f xs)
      (height_plain_free_step is (continuation_heights (height xs) f) (erased xs) (height_free_steps_within j)))
      (sym (marks-heights (height xs) f.items))
      go)
  takes_free (suc n) (Catch s u t r p f ∷ xs) h i zero c = absurd (omega arith)
  takes_free (suc n) (Catch s u t r p f ∷ xs) h i (suc j) c = takes_free n xs (omega arith) i.2 j (omega arith)
  takes_free (suc n) (Findall s u results list p f ∷ xs) h i zero c = absurd (omega arith)
  takes_free (suc n) (Findall s u results list p f ∷ xs) h i (suc j) c =
      let eq : Term = binary (codes "=") list (list_term results) in
      let woken : continuation_heights (height xs) (results_first results list u f) ≡ before (GoalItem eq (length (erased xs)) ∷ [])
      (continuation_heights (height xs) f) = goals-heights (height xs) (height xs) u (length (erased xs)) (eq ∷ []) f
      (i.1 ∙ sym (length-erased xs)) (sames (height xs) (names f.items)) in
      let entry : IsEntrySound p xs (u ∷ names f.items) (GoalItem eq u ∷ f.items) = record
      { carried = i.0.carried; marks = (tt, i.0.marks); findalls = i.0.findalls } in
      stays (Plain p (results_first results list u f)) xs
      (HeightEntry (height_findall_ends results list (continuation_heights (height xs) f) (erased xs)) ∷ erased xs)
      (ap (λ k. HeightEntry (PlainEntry k) ∷ erased xs) woken) (entry, i.3)
      (goal-active clauses (outcome_of clauses eq f.next) p u f)
  takes_free (suc n) (End p b ∷ xs) h i zero c = absurd (omega arith)
  takes_free (suc n) (End p b ∷ xs) h i (suc j) c = stays (End p b) xs _ refl i tt

  -- the free steps of a sound list by names and by heights
  pub take_free-height : (xs : List Element) (hs : List HeightElement) → erased xs ≡ hs → IsSound xs
      → IsFreed (free_steps m [] xs) (height_at_rest hs)
  take_free-height xs hs e i =
      let size : element_count xs ≤ length hs = omega (arith, length-erased xs, ap length e) in
      subst (λ l. IsFreed (free_steps m [] xs) (height_free_steps_within (length hs) l)) e
      (takes_free (length xs) xs (omega arith) i (length hs) size)
