-- Which elements see which: inside are the names that belong to a segment.
use Rattle.std.specs.Prelude.{ℕ, Bool, true, false, List, ◌∷◌, ◌++◌, ◌≡◌}
use Rattle.au_model.specs.Terms.Each.{Each}
use Rattle.run_model.specs.Machine.Items.{Item, GoalItem, CatchMark, CollectMark, RemovalItem}
use Rattle.tree_model.specs.Elements.{Name, Record, Element, Credit, Plain, EndOf, Catch, Findall, End}

-- what is made inside makes more inside
abbrev pub IsGrown : (Name → Bool) → Type 0
IsGrown inside = (i : ℕ) (s : Name) → inside s ≡ true → inside (i ∷ s) ≡ true

module _ (inside : Name → Bool) where
  -- a name that is not inside
  abbrev pub IsApart : Name → Type 0
  IsApart s = inside s ≡ false

  -- and none of whose extensions is
  abbrev pub IsBeside : Name → Type 0
  IsBeside s = (more : List ℕ) → inside (more ++ s) ≡ false

  abbrev pub IsItemApart : Item Name → Type 0
  IsItemApart (GoalItem t h) = IsApart h
  IsItemApart (CatchMark s) = IsApart s
  IsItemApart (CollectMark t s) = IsApart s
  IsItemApart (RemovalItem number) = Unit {0}

  abbrev pub IsRecordApart : Record → Type 0
  IsRecordApart r = IsApart r.0

  -- an element that names nothing inside, and makes nothing there
  abbrev pub IsBlind : Element → Type 0
  IsBlind (Credit k rs) = Each IsRecordApart rs
  IsBlind (Plain p f) = IsBeside p × Each IsItemApart f.items
  IsBlind (EndOf s) = Unit {0}
  IsBlind (Catch s u c r p f) = IsApart s × IsApart u × IsBeside p × Each IsItemApart f.items
  IsBlind (Findall s u results list p f) = IsApart s × IsApart u × IsBeside p × Each IsItemApart f.items
  IsBlind (End p ball) = IsBeside p

  -- an element that was made inside
  abbrev pub IsInner : Element → Type 0
  IsInner (Credit k rs) = Unit {0}
  IsInner (Plain p f) = inside p ≡ true
  IsInner (EndOf s) = inside s ≡ true
  IsInner (Catch s u c r p f) = (inside s ≡ true) × (inside p ≡ true)
  IsInner (Findall s u results list p f) = (inside s ≡ true) × (inside p ≡ true)
  IsInner (End p ball) = inside p ≡ true

  -- an element that is no Findall entry made inside
  abbrev pub IsUnder : Element → Type 0
  IsUnder (Findall s u results list p f) = IsApart s
  IsUnder (Credit k rs) = Unit {0}
  IsUnder (Plain p f) = Unit {0}
  IsUnder (EndOf s) = Unit {0}
  IsUnder (Catch s u c r p f) = Unit {0}
  IsUnder (End p ball) = Unit {0}
