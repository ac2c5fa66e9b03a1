-- Lists in which each name that an entry carries has a height, and each mark's scope one above 0.
use Rattle.std.proofs.Common.{◌≡◌, ◌≤◌, Bool, true, false, cond, List, [], ◌∷◌, refl, sym, ap, ◌∙◌, arith}
use Rattle.au_model.specs.Terms.Each.{Each}
use Rattle.run_model.specs.Machine.Items.{Item, GoalItem, CatchMark, CollectMark, RemovalItem}
use Rattle.tree_model.specs.Elements.{Name, same, Record, Element, Credit, Plain, EndOf, Catch, Findall, End}
use Rattle.interleaving.specs.Erased.{from, element_count, height}
use Rattle.interleaving.specs.Sound.{names, IsPresent, IsMarkSound, IsGathered, IsSound}
use Rattle.interleaving.proofs.ApartLemmas.{same-true}

abbrev pub IsMarkHigh : List Element → Item Name → Type 0
IsMarkHigh xs (CatchMark s) = 1 ≤ height xs s
IsMarkHigh xs (CollectMark t s) = 1 ≤ height xs s
IsMarkHigh xs (GoalItem t s) = Unit {0}
IsMarkHigh xs (RemovalItem number) = Unit {0}

abbrev pub AreReadable : List Element → List (Item Name) → Type 0
AreReadable xs items = Each (IsPresent xs) (names items) × Each (IsMarkHigh xs) items

abbrev pub IsRecordRead : List Element → Record → Type 0
IsRecordRead xs r = IsPresent xs r.0 × (1 ≤ height xs r.0)

abbrev pub IsReadable : List Element → Type 0
IsReadable [] = Unit {0}
IsReadable (EndOf s ∷ xs) = IsReadable xs
IsReadable (Credit k rs ∷ xs) = Each (IsRecordRead xs) rs × IsReadable xs
IsReadable (Plain p f ∷ xs) = AreReadable xs f.items × IsReadable xs
IsReadable (Catch s u c r p f ∷ xs) = AreReadable xs f.items × IsReadable xs
IsReadable (Findall s u results list p f ∷ xs) = AreReadable xs f.items × IsReadable xs
IsReadable (End p b ∷ xs) = IsReadable xs

marks_high : (xs : List Element) (items : List (Item Name)) → Each (IsMarkSound xs) items → Each (IsMarkHigh xs) items
marks_high xs [] h = tt
marks_high xs (GoalItem t s ∷ items) h = (tt, marks_high xs items h.1)
marks_high xs (CatchMark s ∷ items) h = (omega (arith, ap element_count h.0.found), marks_high xs items h.1)
marks_high xs (CollectMark t s ∷ items) h = (omega (arith, ap element_count h.0.found), marks_high xs items h.1)
marks_high xs (RemovalItem n ∷ items) h = (tt, marks_high xs items h.1)

records_high : (xs : List Element) (rs : List Record) → Each (λ r. IsGathered xs r.0) rs → Each (IsRecordRead xs) rs
records_high xs [] h = tt
records_high xs (r ∷ rs) h = (((_, h.0.found), omega (arith, ap element_count h.0.found)), records_high xs rs h.1)

pub sound_readable : (xs : List Element) → IsSound xs → IsReadable xs
sound_readable [] h = tt
sound_readable (EndOf s ∷ xs) h = sound_readable xs h
sound_readable (Credit k rs ∷ xs) h = (records_high xs rs h.0, sound_readable xs h.1)
sound_readable (Plain p f ∷ xs) h = ((h.0.carried.present, marks_high xs f.items h.0.marks), sound_readable xs h.1)
sound_readable (Catch s u c r p f ∷ xs) h = ((h.0.carried.present.1, marks_high xs f.items h.0.marks), sound_readable xs h.2)
sound_readable (Findall s u results list p f ∷ xs) h = ((h.0.carried.present.1, marks_high xs f.items h.0.marks), sound_readable xs h.3)
sound_readable (End p b ∷ xs) h = sound_readable xs h

-- a scope with a height is present
pub high_present : (xs : List Element) (s : Name) → 1 ≤ height xs s → IsPresent xs s
high_present [] s h = absurd (omega (arith, h))
high_present (EndOf e ∷ xs) s h = go (same s e) refl (high_present xs s) h
  where
    go : (b : Bool) → same s e ≡ b → (1 ≤ height xs s → IsPresent xs s) → 1 ≤ element_count (cond b (EndOf e ∷ xs) (from xs s))
        → IsPresent (EndOf e ∷ xs) s
    go true k f l = (xs, ap (λ b. cond b (EndOf e ∷ xs) (from xs s)) k ∙ ap (λ o. EndOf o ∷ xs) (sym (same-true s e k)))
    go false k f l = let p = f l in (p.0, ap (λ b. cond b (EndOf e ∷ xs) (from xs s)) k ∙ p.1)
high_present (Credit k rs ∷ xs) s h = high_present xs s h
high_present (Plain p f ∷ xs) s h = high_present xs s h
high_present (Catch e u c r p f ∷ xs) s h = high_present xs s h
high_present (Findall e u results list p f ∷ xs) s h = high_present xs s h
high_present (End p b ∷ xs) s h = high_present xs s h
