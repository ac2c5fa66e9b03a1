-- The catch marks of a private run are over their own Catch entries.
use Rattle.std.proofs.Common.{◌≡◌, ℕ, suc, ◌-◌, ◌≤◌, ◌<◌, ◌==◌, Bool, true, false, cond, List, [], ◌∷◌, ◌++◌, map, length, refl, sym, ap}
use Rattle.std.proofs.Common.{◌∙◌, subst, arith}
use Rattle.std.specs.List.{list_any}
use Rattle.au_term.specs.Term.{Term}
use Rattle.au_model.specs.Terms.Each.{Each}
use Rattle.run_model.specs.Machine.Items.{Item, GoalItem, CatchMark, CollectMark, RemovalItem, Continuation}
use Rattle.run_model.specs.Machine.Entries.{Entry, PlainEntry, CatchEntry, FindallEntry, EndEntry}
use Rattle.tree_model.specs.Shapes.{is_guard}
use Rattle.tree_model.specs.Elements.{Name, same, Element, Credit, Plain, EndOf, Catch, Findall, End}
use Rattle.interleaving.specs.HeightMachine.{HeightElement, HeightEntry, height_entries}
use Rattle.interleaving.specs.Erased.{from, element_count, height, with_height, continuation_heights, erased}
use Rattle.interleaving.specs.Sound.{IsMarkSound, IsSound}
use Rattle.interleaving.proofs.WayLemmas.{cond-true, cond-false}
use Rattle.au_term.proofs.LogicLemmas.{neither, false_true, number_same}

abbrev pub is_catch_entry : Entry → Bool
is_catch_entry (CatchEntry c r f) = true
is_catch_entry (PlainEntry f) = false
is_catch_entry (FindallEntry results l f) = false
is_catch_entry (EndEntry b) = false

-- whether a Catch entry is at a height
abbrev pub catch_at : ℕ → List Entry → Bool
catch_at h [] = false
catch_at h (e ∷ es) = cond (length es == h) (is_catch_entry e) (catch_at h es)

-- the marks of items over these entries
abbrev pub MarksAt : List Entry → List (Item ℕ) → Type 0
MarksAt es [] = Unit {0}
MarksAt es (CatchMark h ∷ items) = (catch_at h es ≡ true) × MarksAt es items
MarksAt es (GoalItem t h ∷ items) = MarksAt es items
MarksAt es (CollectMark t h ∷ items) = MarksAt es items
MarksAt es (RemovalItem n ∷ items) = MarksAt es items

abbrev pub EntryMarked : List Entry → Entry → Type 0
EntryMarked es (PlainEntry f) = MarksAt es f.items
EntryMarked es (CatchEntry c r f) = MarksAt es f.items
EntryMarked es (FindallEntry results l f) = MarksAt es f.items
EntryMarked es (EndEntry b) = Unit {0}

abbrev pub AllMarked : List Entry → Type 0
AllMarked [] = Unit {0}
AllMarked (e ∷ es) = EntryMarked es e × AllMarked es

-- own entries over a floor
abbrev pub AreMarked : List Entry → List Entry → Type 0
AreMarked floor [] = Unit {0}
AreMarked floor (e ∷ es) = EntryMarked (es ++ floor) e × AreMarked floor es

pub all_over : (es floor : List Entry) → AllMarked (es ++ floor) → AreMarked floor es
all_over [] floor h = tt
all_over (e ∷ es) floor h = (h.0, all_over es floor h.1)

-- by names
height_cons : (e d : Entry) (xs : List HeightElement) (es : List Entry) → ◌≡◌ {A = List HeightElement} (HeightEntry e ∷ xs)
    (height_entries (d ∷ es)) → (e ≡ d) × (xs ≡ height_entries es)
height_cons e d xs es h = (let z : e ≡ d = cc in z, let z : xs ≡ height_entries es = cc in z)

height_length : (xs : List Element) (es : List Entry) → erased xs ≡ height_entries es → element_count xs ≡ length es
height_length [] [] h = refl
height_length [] (e ∷ es) h = let no_way : ⊥ = cc in absurd no_way
height_length (EndOf s ∷ xs) es h = height_length xs es h
height_length (Credit k rs ∷ xs) [] h = let no_way : ⊥ = cc in absurd no_way
height_length (Credit k rs ∷ xs) (e ∷ es) h = let no_way : ⊥ = cc in absurd no_way
height_length (Plain p f ∷ xs) [] h = let no_way : ⊥ = cc in absurd no_way
height_length (Plain p f ∷ xs) (e ∷ es) h = ap suc (height_length xs es (height_cons _ e (erased xs) es h).1)
height_length (Catch s u c r p f ∷ xs) [] h = let no_way : ⊥ = cc in absurd no_way
height_length (Catch s u c r p f ∷ xs) (e ∷ es) h = ap suc (height_length xs es (height_cons _ e (erased xs) es h).1)
height_length (Findall s u results l p f ∷ xs) [] h = let no_way : ⊥ = cc in absurd no_way
height_length (Findall s u results l p f ∷ xs) (e ∷ es) h = ap suc (height_length xs es (height_cons _ e (erased xs) es h).1)
height_length (End p b ∷ xs) [] h = let no_way : ⊥ = cc in absurd no_way
height_length (End p b ∷ xs) (e ∷ es) h = ap suc (height_length xs es (height_cons _ e (erased xs) es h).1)

from_low : (xs : List Element) (s : Name) → element_count (from xs s) ≤ element_count xs
from_low [] s = omega arith
from_low (EndOf e ∷ xs) s = go (same s e) (from_low xs s)
  where
    go : (b : Bool) → element_count (from xs s) ≤ element_count xs → element_count (cond b (EndOf e ∷ xs) (from xs s)) ≤ element_count xs
    go true h = omega arith
    go false h = h
from_low (Credit k rs ∷ xs) s = let h = from_low xs s in omega (arith, h)
from_low (Plain p f ∷ xs) s = let h = from_low xs s in omega (arith, h)
from_low (Catch c u k r p f ∷ xs) s = let h = from_low xs s in omega (arith, h)
from_low (Findall c u results l p f ∷ xs) s = let h = from_low xs s in omega (arith, h)
from_low (End p b ∷ xs) s = let h = from_low xs s in omega (arith, h)

-- a Catch entry right under the end of a scope
abbrev Guards : List Element → Name → List Element → Type 0
Guards xs s t = (u : Name) × (c : Term) × (r : Term) × (p : Name) × (f : Continuation Name) × (from xs s ≡ EndOf s ∷ Catch s u c r p f ∷ t)

passed_entry : (e : Entry) (es : List Entry) (h : ℕ) → h < length es → catch_at h es ≡ true → catch_at h (e ∷ es) ≡ true
passed_entry e es h l k = cond-false (length es == h) (is_catch_entry e) (catch_at h es) (apart (length es == h) refl) ∙ k
  where
    apart : (b : Bool) → (length es == h) ≡ b → b ≡ false
    apart false z = refl
    apart true z = let same : length es ≡ h = grind arith in let no_way : ⊥ = omega (arith, l, same) in absurd no_way

guarded_height : (xs : List Element) (s : Name) (t : List Element) → Guards xs s t → suc (element_count t) ≤ element_count xs
guarded_height xs s t g = let low = from_low xs s in let here : element_count (from xs s)
    ≡ suc (element_count t) = ap element_count g.5 in omega (arith, low, here)

found_catch : (xs : List Element) (es : List Entry) (s : Name) (t : List Element) → erased xs ≡ height_entries es → Guards xs s t
    → catch_at (element_count t) es ≡ true
found_catch [] es s t e g = let z = g.5 in let no_way : ⊥ = cc in absurd no_way
found_catch (EndOf n ∷ xs) es s t e g = go (same s n) g.5 (λ z. found_catch xs es s t e (g.0, g.1, g.2, g.3, g.4, z))
  where
    behind : (a b : Name) (ys zs : List Element) → ◌≡◌ {A = List Element} (EndOf a ∷ ys) (EndOf b ∷ zs) → ys ≡ zs
    behind a b ys zs h = cc

    here : (es : List Entry) → erased (Catch s g.0 g.1 g.2 g.3 g.4 ∷ t) ≡ height_entries es → catch_at (element_count t) es ≡ true
    here [] h = let no_way : ⊥ = cc in absurd no_way
    here (d ∷ ds) h =
        let k = height_cons _ d (erased t) ds h in
        let many : element_count t ≡ length ds = height_length t ds k.1 in
        cond-true (length ds == element_count t) (is_catch_entry d) (catch_at (element_count t) ds)
        (ap (λ n. length ds == n) many ∙ number_same (length ds)) ∙ ap is_catch_entry (sym k.0)

    go : (b : Bool) → cond b (EndOf n ∷ xs) (from xs s) ≡ EndOf s ∷ Catch s g.0 g.1 g.2 g.3 g.4 ∷ t
        → (from xs s ≡ EndOf s ∷ Catch s g.0 g.1 g.2 g.3 g.4 ∷ t → catch_at (element_count t) es ≡ true)
        → catch_at (element_count t) es ≡ true
    go true z f = here es (ap erased (sym (behind n s xs (Catch s g.0 g.1 g.2 g.3 g.4 ∷ t) z)) ∙ e)
    go false z f = f z
found_catch (Credit k rs ∷ xs) [] s t e g = let no_way : ⊥ = cc in absurd no_way
found_catch (Credit k rs ∷ xs) (d ∷ es) s t e g = let no_way : ⊥ = cc in absurd no_way
found_catch (Plain p f ∷ xs) [] s t e g = let no_way : ⊥ = cc in absurd no_way
found_catch (Plain p f ∷ xs) (d ∷ es) s t e g = let k = (height_cons _ d (erased xs) es e).1 in let h = guarded_height xs s t g in
    passed_entry d es (element_count t) (omega (arith, h, height_length xs es k)) (found_catch xs es s t k g)
found_catch (Catch n u c r p f ∷ xs) [] s t e g = let no_way : ⊥ = cc in absurd no_way
found_catch (Catch n u c r p f ∷ xs) (d ∷ es) s t e g = let k = (height_cons _ d (erased xs) es e).1 in let h = guarded_height xs s t g in
    passed_entry d es (element_count t) (omega (arith, h, height_length xs es k)) (found_catch xs es s t k g)
found_catch (Findall n u results l p f ∷ xs) [] s t e g = let no_way : ⊥ = cc in absurd no_way
found_catch (Findall n u results l p f ∷ xs) (d ∷ es) s t e g = let k = (height_cons _ d (erased xs) es e).1 in let h = guarded_height xs
    s t g in passed_entry d es (element_count t) (omega (arith, h, height_length xs es k)) (found_catch xs es s t k g)
found_catch (End p b ∷ xs) [] s t e g = let no_way : ⊥ = cc in absurd no_way
found_catch (End p b ∷ xs) (d ∷ es) s t e g = let k = (height_cons _ d (erased xs) es e).1 in let h = guarded_height xs s t g in
    passed_entry d es (element_count t) (omega (arith, h, height_length xs es k)) (found_catch xs es s t k g)

items_marked : (xs : List Element) (es : List Entry) (items : List (Item Name)) → erased xs ≡ height_entries es
    → Each (IsMarkSound xs) items → MarksAt es (map (with_height (height xs)) items)
items_marked xs es [] e h = tt
items_marked xs es (GoalItem t s ∷ items) e h = items_marked xs es items e h.1
items_marked xs es (CollectMark t s ∷ items) e h = items_marked xs es items e h.1
items_marked xs es (RemovalItem n ∷ items) e h = items_marked xs es items e h.1
items_marked xs es (CatchMark s ∷ items) e h =
    let g = h.0 in
    let all : element_count (from xs s) ≡ suc (element_count g.under) = ap element_count g.found in
    let here : height xs s - 1 ≡ element_count g.under = omega (arith, all) in (
      ap (λ n. catch_at n es) here ∙ found_catch xs es s g.under e (g.scope, g.catcher, g.recovery, g.name, g.after, g.found),
      items_marked xs es items e h.1,
    )

pub named_marked : (xs : List Element) (es : List Entry) → IsSound xs → erased xs ≡ height_entries es → AllMarked es
named_marked [] [] i e = tt
named_marked [] (d ∷ es) i e = tt_none
  where
    tt_none : AllMarked (d ∷ es)
    tt_none = let no_way : ⊥ = cc in absurd no_way
named_marked (EndOf s ∷ xs) es i e = named_marked xs es i e
named_marked (Credit k rs ∷ xs) [] i e = tt
named_marked (Credit k rs ∷ xs) (d ∷ es) i e = let no_way : ⊥ = cc in absurd no_way
named_marked (Plain p f ∷ xs) [] i e = tt
named_marked (Plain p f ∷ xs) (d ∷ es) i e = let k = height_cons (PlainEntry (continuation_heights (height xs) f)) d (erased xs) es e in
    (subst (EntryMarked es) k.0 (items_marked xs es f.items k.1 i.0.marks), named_marked xs es i.1 k.1)
named_marked (Catch s u c r p f ∷ xs) [] i e = tt
named_marked (Catch s u c r p f ∷ xs) (d ∷ es) i e = let k = height_cons (CatchEntry c r (continuation_heights (height xs) f)) d
    (erased xs) es
    e in (subst (EntryMarked es) k.0 (items_marked xs es f.items k.1 i.0.marks), named_marked xs es i.2 k.1)
named_marked (Findall s u results l p f ∷ xs) [] i e = tt
named_marked (Findall s u results l p f ∷ xs) (d ∷ es) i e = let k = height_cons
    (FindallEntry results l (continuation_heights (height xs) f)) d
    (erased xs) es e in (subst (EntryMarked es) k.0 (items_marked xs es f.items k.1 i.0.marks), named_marked xs es i.3 k.1)
named_marked (End p b ∷ xs) [] i e = tt
named_marked (End p b ∷ xs) (d ∷ es) i e = let k = height_cons (EndEntry b) d (erased xs) es e in
    (subst (EntryMarked es) k.0 tt, named_marked xs es i k.1)

-- where a Catch entry may be
pub catch_low : (h : ℕ) (es : List Entry) → catch_at h es ≡ true → suc h ≤ length es
catch_low h [] k = false_true k
catch_low h (e ∷ es) k = go (length es == h) refl k (catch_low h es)
  where
    go : (b : Bool) → (length es == h) ≡ b → cond b (is_catch_entry e) (catch_at h es) ≡ true
        → (catch_at h es ≡ true → suc h ≤ length es) → suc h ≤ suc (length es)
    go true q z f = let same : length es ≡ h = grind arith in omega (arith, same)
    go false q z f = let l = f z in omega (arith, l)

guard_none : (e : Entry) → is_guard e ≡ false → is_catch_entry e ≡ false
guard_none (CatchEntry c r f) h = false_true (sym h)
guard_none (PlainEntry f) h = refl
guard_none (FindallEntry results l f) h = refl
guard_none (EndEntry b) h = refl

pub no_guard_catch : (h : ℕ) (olds es : List Entry) → list_any is_guard olds ≡ false → catch_at h (olds ++ es) ≡ true → catch_at h es ≡ true
no_guard_catch h [] es n k = k
no_guard_catch h (o ∷ olds) es n k = go (length (olds ++ es) == h) k
    (no_guard_catch h olds es (neither (is_guard o) (list_any is_guard olds) n).1)
  where
    go : (b : Bool) → cond b (is_catch_entry o) (catch_at h (olds ++ es)) ≡ true
        → (catch_at h (olds ++ es) ≡ true → catch_at h es ≡ true) → catch_at h es ≡ true
    go true z f = false_true (sym (guard_none o (neither (is_guard o) (list_any is_guard olds) n).0) ∙ z)
    go false z f = f z
