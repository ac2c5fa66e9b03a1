-- Heights over captured choice points count the entries of their groups.
use Rattle.std.proofs.Common.{◌≡◌, ◌⊎◌, inl, inr, ℕ, suc, ◌+◌, ◌-◌, ◌<◌, ◌≤◌, List, [], ◌∷◌, ◌++◌, append-nil, append_assoc, length, length-append, map, reverse, take, refl, sym, ap, ◌∙◌, arith}
use Rattle.std.proofs.lemmas.Bool.{cases_lt}
use Rattle.std.proofs.lemmas.List.{length-map, map-append, take-append-le, take_all}
use Rattle.au_model.specs.Terms.Named.{NamedTerm}
use Rattle.run_model.specs.Machine.Entries.{Entry}
use Rattle.region_split.specs.ChoicePoints.{height_of_cut}
use Rattle.region_capture.specs.CapturedChoices.{MeantChoice, group_entries, meant_entries, AreHeightsOf}
use Rattle.branch_shapes.specs.Groups.{Groups, stacked, entries_in, height_kept}
use Rattle.branch_shapes.specs.ChoiceScopes.{choice_height}
use Rattle.branch_shapes.proofs.ChoiceScopeLemmas.{low_height, high_height}
use Rattle.task_publishing.proofs.WholeLemmas.{reverse-cons, turned}

pub entries_more : (gs : Groups) (g : List Entry) → entries_in (gs ++ g ∷ []) ≡ entries_in gs + length g
entries_more [] g = omega arith
entries_more (h ∷ gs) g = let e = entries_more gs g in omega (arith, e)

pub stacked_more : (gs : Groups) (g : List Entry) → stacked (gs ++ g ∷ []) ≡ g ++ stacked gs
stacked_more [] g = sym (append-nil g)
stacked_more (h ∷ gs) g = ap (λ es. es ++ h) (stacked_more gs g) ∙ append_assoc g (stacked gs) h

-- a group for each choice point, the oldest first, with as many entries as it stands for
module _ (group : MeantChoice → List Entry) where
  abbrev pub groups : List MeantChoice → Groups
  groups ms = map group (reverse ms)

  pub groups_more : (m : MeantChoice) (ms : List MeantChoice) → groups (m ∷ ms) ≡ groups ms ++ group m ∷ []
  groups_more m ms = ap (map group) (reverse-cons m ms) ∙ map-append group (reverse ms) (m ∷ [])

  groups_long : (ms : List MeantChoice) → length (groups ms) ≡ length ms
  groups_long ms = length-map (reverse ms) group ∙ turned ms

  module _ (heights : List ℕ) (named : List NamedTerm) (same : (m : MeantChoice) → length (group m) ≡ length (group_entries heights named m)) where
    all_entries : (ms : List MeantChoice) → entries_in (groups ms) ≡ length (meant_entries heights named ms)
    all_entries [] = refl
    all_entries (m ∷ ms) =
        let e = ap entries_in (groups_more m ms) ∙ entries_more (groups ms) (group m) in
        let rest = all_entries ms in
        let own = same m in
        let whole = length-append (group_entries heights named m) (meant_entries heights named ms) in
        omega (arith, e, rest, own, whole)

    -- so many of the oldest
    record AreOldest (ms : List MeantChoice) (c : ℕ) : Type 0 where
      older : List MeantChoice
      many : length older ≡ c
      groups_are : take c (groups ms) ≡ groups older
      heights_are : (cut others : ℕ) → AreHeightsOf heights named cut others ms → AreHeightsOf heights named cut others older

    oldest : (ms : List MeantChoice) (c : ℕ) → c ≤ length ms → AreOldest ms c
    oldest [] c le =
        let none : 0 ≡ c = omega arith in
        record { older = []; many = none; groups_are = take_none c; heights_are = λ cut others k. k }
      where
        take_none : (n : ℕ) → take n (groups []) ≡ groups []
        take_none n = take_all n [] (omega arith)
    oldest (m ∷ ms) c le = by_case (oldest ms c) (cases_lt c (suc (length ms)))
      where
        by_case : (c ≤ length ms → AreOldest ms c) → (c < suc (length ms)) ⊎ (suc (length ms) ≤ c) → AreOldest (m ∷ ms) c
        by_case rest (inl lt) =
            let o = rest (omega arith) in
            record {
              older = o.older;
              many = o.many;
              groups_are = ap (take c) (groups_more m ms)
                  ∙ (take-append-le c (groups ms) (group m ∷ []) (let l = groups_long ms in omega (arith, l, lt)) ∙ o.groups_are);
              heights_are = λ cut others k. o.heights_are cut others k.1;
            }
        by_case rest (inr ge) = record {
          older = m ∷ ms;
          many = omega arith;
          groups_are = take_all c (groups (m ∷ ms)) (let l = groups_long (m ∷ ms) in omega (arith, l, ge));
          heights_are = λ cut others k. k;
        }

    over_all : (cut others : ℕ) (ms : List MeantChoice) → AreHeightsOf heights named cut others ms
        → height_of_cut heights (cut + length ms) ≡ length (meant_entries heights named ms) + others
    over_all cut others [] k =
        let e : cut + 0 ≡ cut = omega arith in
        let same : height_of_cut heights (cut + 0) ≡ others = ap (height_of_cut heights) e ∙ k in
        omega (arith, same)
    over_all cut others (m ∷ ms) k = k.0

    -- heights of the floor are their own, and the others count entries over it
    pub captured_heights : (floor : ℕ) (ms : List MeantChoice) → ((n : ℕ) → n ≤ floor → height_of_cut heights n ≡ n) → AreHeightsOf heights named floor floor ms
        → (n : ℕ) → n ≤ floor + length ms → height_of_cut heights n ≡ choice_height floor (groups ms) n
    captured_heights floor ms low k n le = by_case (cases_lt floor n)
      where
        by_case : (floor < n) ⊎ (n ≤ floor) → height_of_cut heights n ≡ choice_height floor (groups ms) n
        by_case (inr under) = low n under ∙ sym (low_height floor (groups ms) n under)
        by_case (inl over) =
            let o = oldest ms (n - floor) (omega arith) in
            let e : floor + length o.older ≡ n = let m = o.many in omega (arith, m, over) in
            let counted = over_all floor floor o.older (o.heights_are floor floor k) in
            let kept : height_kept floor (groups ms) (n - floor) ≡ floor + entries_in (groups o.older) = ap (λ gs. floor + entries_in gs) o.groups_are in
            let all = all_entries o.older in
            ap (height_of_cut heights) (sym e)
            ∙ ((let t : height_of_cut heights (floor + length o.older) ≡ height_kept floor (groups ms) (n - floor) = omega (arith, counted, kept, all) in t)
            ∙ sym (high_height floor (groups ms) n (omega (arith, over))))
