-- The list with heights for which a list with names stands: ends of scopes go, and a scope becomes the number of entries
-- and credits from its end on.
use Rattle.std.specs.Prelude.{ℕ, suc, ◌-◌, cond, List, [], ◌∷◌, map}
use Rattle.au_term.specs.Term.{Term}
use Rattle.run_model.specs.Machine.Items.{Item, GoalItem, CatchMark, CollectMark, RemovalItem, Continuation}
use Rattle.run_model.specs.Machine.Entries.{PlainEntry, CatchEntry, FindallEntry, EndEntry}
use Rattle.tree_model.specs.Elements.{Name, same, Record, Element, Credit, Plain, EndOf, Catch, Findall, End}
use Rattle.interleaving.specs.HeightMachine.{HeightElement, HeightCredit, HeightEntry}

-- the list from the first end of a scope on
abbrev pub from : List Element → Name → List Element
from [] s = []
from (EndOf e ∷ xs) s = cond (same s e) (EndOf e ∷ xs) (from xs s)
from (Credit k rs ∷ xs) s = from xs s
from (Plain p f ∷ xs) s = from xs s
from (Catch c u t r p f ∷ xs) s = from xs s
from (Findall c u results list p f ∷ xs) s = from xs s
from (End p b ∷ xs) s = from xs s

-- how many entries and credits there are
abbrev pub element_count : List Element → ℕ
element_count [] = 0
element_count (EndOf e ∷ xs) = element_count xs
element_count (Credit k rs ∷ xs) = suc (element_count xs)
element_count (Plain p f ∷ xs) = suc (element_count xs)
element_count (Catch c u t r p f ∷ xs) = suc (element_count xs)
element_count (Findall c u results list p f ∷ xs) = suc (element_count xs)
element_count (End p b ∷ xs) = suc (element_count xs)

abbrev pub height : List Element → Name → ℕ
height xs s = element_count (from xs s)

-- a mark's scope ends right above the mark's own entry, whose height is one less
abbrev pub with_height : (Name → ℕ) → Item Name → Item ℕ
with_height h (GoalItem t s) = GoalItem t (h s)
with_height h (CatchMark s) = CatchMark (h s - 1)
with_height h (CollectMark t s) = CollectMark t (h s - 1)
with_height h (RemovalItem number) = RemovalItem number

abbrev pub continuation_heights : (Name → ℕ) → Continuation Name → Continuation ℕ
continuation_heights h f = record { items = map (with_height h) f.items; named = f.named; next = f.next }

abbrev pub record_height : List Element → Record → ℕ × Term
record_height xs r = (height xs r.0 - 1, r.1)

abbrev pub erased : List Element → List HeightElement
erased [] = []
erased (EndOf e ∷ xs) = erased xs
erased (Credit k rs ∷ xs) = HeightCredit k (map (record_height xs) rs) ∷ erased xs
erased (Plain p f ∷ xs) = HeightEntry (PlainEntry (continuation_heights (height xs) f)) ∷ erased xs
erased (Catch s u c r p f ∷ xs) = HeightEntry (CatchEntry c r (continuation_heights (height xs) f)) ∷ erased xs
erased (Findall s u results list p f ∷ xs) = HeightEntry (FindallEntry results list (continuation_heights (height xs) f)) ∷ erased xs
erased (End p b ∷ xs) = HeightEntry (EndEntry b) ∷ erased xs
