-- Heights name entries that are there: along what is left to do they never rise, and none passes what is under it.
use Rattle.std.specs.Prelude.{◌≡◌, ℕ, suc, min, ◌≤◌, List, [], ◌∷◌, ◌++◌, length}
use Rattle.run_model.specs.Machine.Items.{Item, GoalItem, CatchMark, CollectMark, RemovalItem}
use Rattle.run_model.specs.Machine.Entries.{Entry, PlainEntry, CatchEntry, FindallEntry, EndEntry, lowest}

-- no height of these items is above n; the scope of what a mark ends is the one above the mark's entry
abbrev pub HeightsFall : ℕ → List (Item ℕ) → Type 0
HeightsFall n [] = Unit {0}
HeightsFall n (GoalItem t h ∷ items) = (h ≤ n) × HeightsFall h items
HeightsFall n (CatchMark h ∷ items) = (suc h ≤ n) × HeightsFall h items
HeightsFall n (CollectMark t h ∷ items) = (suc h ≤ n) × HeightsFall h items
HeightsFall n (RemovalItem number ∷ items) = HeightsFall n items

-- an entry over so many entries
abbrev pub FitsHeight : ℕ → Entry → Type 0
FitsHeight n (PlainEntry f) = HeightsFall n f.items
FitsHeight n (CatchEntry c r f) = HeightsFall n f.items
FitsHeight n (FindallEntry results l f) = HeightsFall n f.items
FitsHeight n (EndEntry b) = Unit {0}

abbrev pub FitHeights : List Entry → Type 0
FitHeights [] = Unit {0}
FitHeights (e ∷ es) = FitsHeight (length es) e × FitHeights es

-- a cut keeps a lower part of the entries, as high as its height where they are
pub record KeepsLowerPart (h : ℕ) (es : List Entry) : Type 0 where
  pub above : List Entry
  pub joined : es ≡ above ++ lowest h es
  pub height : length (lowest h es) ≡ min h (length es)
