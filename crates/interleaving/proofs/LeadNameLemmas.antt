-- Goals in front alone name the end of an alternative: under another name for it, what it leaves names it no more.
use Rattle.std.proofs.Common.{◌≡◌, ℕ, ◌==◌, Bool, true, false, cond, List, [], ◌∷◌, ◌++◌, map, refl, sym, ap, ◌∙◌, subst}
use Rattle.std.specs.Prelude.{◌&&◌}
use Rattle.au_model.specs.Terms.Each.{Each}
use Rattle.run_model.specs.Machine.Items.{Item, GoalItem, CatchMark, CollectMark, RemovalItem}
use Rattle.tree_model.specs.Elements.{Name, same, Element, Credit, Plain, EndOf, Catch, Findall, End}
use Rattle.interleaving.specs.Sound.{names, IsMadeElsewhere, EachFindall}
use Rattle.interleaving.specs.Views.{IsGrown, IsBlind}
use Rattle.tree_model.specs.Floors.{renamed_item}
use Rattle.tree_model.specs.PendingLists.{Step, Way, step_name, scope_on}
use Rattle.tree_model.specs.Ways.{is_on, way_from, way_above, AreScoped}
use Rattle.interleaving.proofs.WayLemmas.{cond-true, reach-on}
use Rattle.interleaving.proofs.RoundtripLemmas.{part_from, part_above}
use Rattle.interleaving.proofs.NamingLemmas.{not-same}
use Rattle.interleaving.proofs.NamedFloorLemmas.{scope_other, scope_never}
use Rattle.interleaving.proofs.FarNameLemmas.{IsItemFar}
use Rattle.interleaving.proofs.RenamedLemmas.{lead_items, Other}
use Rattle.au_term.proofs.LogicLemmas.{true_false, number_same}

-- a new name is none of a way
pub others_new : (way : Way) (i n : ℕ) → is_on way n ≡ false → (items : List (Item ℕ))
    → Each (Other (i ∷ n ∷ [])) (names (map (renamed_item (scope_on way) (scope_on way)) items))
others_new way i n h [] = tt
others_new way i n h (GoalItem t s ∷ items) = (scope_never way s i n h, others_new way i n h items)
others_new way i n h (CatchMark s ∷ items) = (scope_never way s i n h, others_new way i n h items)
others_new way i n h (CollectMark t s ∷ items) = (scope_never way s i n h, others_new way i n h items)
others_new way i n h (RemovalItem m ∷ items) = others_new way i n h items

-- what sees nothing made inside has no findall entry made there
made_more : (inside : Name → Bool) → IsGrown inside → (q : Name) → inside q ≡ true → (more : List ℕ) → inside (more ++ q) ≡ true
made_more inside g q h [] = h
made_more inside g q h (i ∷ more) = g i (more ++ q) (made_more inside g q h more)

pub blind_findalls : (inside : Name → Bool) → IsGrown inside → (q : Name) → inside q ≡ true → (xs : List Element)
    → Each (IsBlind inside) xs → EachFindall (IsMadeElsewhere q) xs
blind_findalls inside g q h [] b = tt
blind_findalls inside g q h (Credit k rs ∷ xs) b = blind_findalls inside g q h xs b.1
blind_findalls inside g q h (Plain p f ∷ xs) b = blind_findalls inside g q h xs b.1
blind_findalls inside g q h (EndOf s ∷ xs) b = blind_findalls inside g q h xs b.1
blind_findalls inside g q h (Catch s u c r p f ∷ xs) b = blind_findalls inside g q h xs b.1
blind_findalls inside g q h (Findall s u results l p f ∷ xs) b =
    ((λ more e. true_false (sym (made_more inside g q h more) ∙ (ap inside (sym e) ∙ b.0.0))), blind_findalls inside g q h xs b.1)
blind_findalls inside g q h (End p o ∷ xs) b = blind_findalls inside g q h xs b.1

module _ (a : Step) (w : Way) (off : is_on w a.node ≡ false) (new : Name) (fresh : same (step_name a) new ≡ false) where
  abbrev way : Way
  way = a ∷ w

  away : (s : ℕ) → (s ≡ a.node → ⊥) → same (step_name a) (scope_on (a ∷ w) s) ≡ false
  away s h = not-same (step_name a) (scope_on (a ∷ w) s) (λ e. scope_other (a ∷ w) s a.index a.node h (sym e))

  -- items of what is above
  still_far : (part : Way) (items : List (Item ℕ)) → ((r : ℕ) → is_on part r ≡ true → r ≡ a.node → ⊥) → AreScoped part items
      → Each (IsItemFar (same (step_name a))) (map (renamed_item (scope_on (a ∷ w)) (scope_on (a ∷ w))) items)
  still_far part [] k h = tt
  still_far part (GoalItem t s ∷ items) k h =
      (away s (k s (reach-on part s h.0)), still_far (way_from part s) items (λ r z. k r (part_from part s r z)) h.1)
  still_far part (CatchMark s ∷ items) k h = (tt, still_far (way_above part s) items (λ r z. k r (part_above part s r z)) h.1)
  still_far part (CollectMark t s ∷ items) k h = (tt, still_far (way_above part s) items (λ r z. k r (part_above part s r z)) h.1)
  still_far part (RemovalItem m ∷ items) k h = (tt, still_far part items k h)

  on_above : (r : ℕ) → is_on w r ≡ true → r ≡ a.node → ⊥
  on_above r o e = true_false (sym o ∙ (ap (is_on w) e ∙ off))

  not_here : (s : ℕ) → (a.node == s) ≡ false → s ≡ a.node → ⊥
  not_here s h e = true_false (sym (number_same a.node) ∙ (ap (λ m. a.node == m) (sym e) ∙ h))

  own_goal : (s : ℕ) → (a.node == s) ≡ true → same (scope_on (a ∷ w) s) (step_name a) ≡ true
  own_goal s h = ap (λ n. same n (step_name a)) (cond-true (a.node == s) (step_name a) (scope_on w s) h) ∙ same-here
    where
      same-here : same (step_name a) (step_name a) ≡ true
      same-here = ap (λ b. b && ((a.node == a.node) && true)) (number_same a.index) ∙ ap (λ b. b && true) (number_same a.node)

  other_goal : (s : ℕ) → (a.node == s) ≡ false → same (scope_on (a ∷ w) s) (step_name a) ≡ false
  other_goal s h = not-same (scope_on (a ∷ w) s) (step_name a) (scope_other (a ∷ w) s a.index a.node (not_here s h))

  pub lead_far : (items : List (Item ℕ)) → AreScoped (a ∷ w) items
      → Each (IsItemFar (same (step_name a)))
      (lead_items (step_name a) new (map (renamed_item (scope_on (a ∷ w)) (scope_on (a ∷ w))) items))
  lead_far [] h = tt
  lead_far (RemovalItem m ∷ items) h = (tt, lead_far items h)
  lead_far (GoalItem t s ∷ items) h = go (a.node == s) refl (lead_far items) h.1
    where
      named : List (Item Name)
      named = map (renamed_item (scope_on (a ∷ w)) (scope_on (a ∷ w))) items

      go : (b : Bool) → (a.node == s) ≡ b
          → (AreScoped (a ∷ w) items → Each (IsItemFar (same (step_name a)))
          (lead_items (step_name a) new (map (renamed_item (scope_on (a ∷ w)) (scope_on (a ∷ w))) items)))
          → AreScoped (cond b (a ∷ w) (way_from w s)) items →
          Each (IsItemFar (same (step_name a)))
          (lead_items (step_name a) new (map (renamed_item (scope_on (a ∷ w)) (scope_on (a ∷ w))) (GoalItem t s ∷ items)))
      go true e f k = subst (λ b. Each (IsItemFar (same (step_name a)))
          (cond b (GoalItem t new ∷ lead_items (step_name a) new (map (renamed_item (scope_on (a ∷ w)) (scope_on (a ∷ w))) items))
          (GoalItem t (scope_on (a ∷ w) s) ∷ map (renamed_item (scope_on (a ∷ w)) (scope_on (a ∷ w))) items))) (sym (own_goal s e))
          (fresh, f k)
      go false e f k = subst (λ b. Each (IsItemFar (same (step_name a)))
          (cond b (GoalItem t new ∷ lead_items (step_name a) new (map (renamed_item (scope_on (a ∷ w)) (scope_on (a ∷ w))) items))
          (GoalItem t (scope_on (a ∷ w) s) ∷ map (renamed_item (scope_on (a ∷ w)) (scope_on (a ∷ w))) items))) (sym (other_goal s e))
          (away s (not_here s e), still_far (way_from w s) items (λ r z. on_above r (part_from w s r z)) k)
  lead_far (CatchMark s ∷ items) h = (tt, go (a.node == s) h.1)
    where
      go : (b : Bool) → AreScoped (cond b w (way_above w s)) items
          → Each (IsItemFar (same (step_name a))) (map (renamed_item (scope_on (a ∷ w)) (scope_on (a ∷ w))) items)
      go true k = still_far w items on_above k
      go false k = still_far (way_above w s) items (λ r z. on_above r (part_above w s r z)) k
  lead_far (CollectMark t s ∷ items) h = (tt, go (a.node == s) h.1)
    where
      go : (b : Bool) → AreScoped (cond b w (way_above w s)) items
          → Each (IsItemFar (same (step_name a))) (map (renamed_item (scope_on (a ∷ w)) (scope_on (a ∷ w))) items)
      go true k = still_far w items on_above k
      go false k = still_far (way_above w s) items (λ r z. on_above r (part_above w s r z)) k
