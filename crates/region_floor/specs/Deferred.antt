-- What a region defers: the items that its alternative had at the start are not loaded. One item stands for all of them
-- from a number on, and their terms are carried as further named terms, so that every binding reaches them.
use Rattle.std.specs.Prelude.{◌≡◌, ℕ, List, [], ◌∷◌, ◌++◌, map, length, take, drop}
use Rattle.au_term.specs.Term.{Term, AtomTerm}
use Rattle.au_model.specs.Terms.Named.{NamedTerm}
use Rattle.au_model.specs.Terms.Substitutions.{Substitution}
use Rattle.run_model.specs.Machine.Items.{Item, GoalItem, CatchMark, CollectMark, RemovalItem, Continuation, resolve_item, resolve_named}
use Rattle.run_model.specs.Machine.Entries.{Entry, PlainEntry, CatchEntry, FindallEntry, EndEntry}

-- the items that are deferred, and how many of the named terms are the query's
pub record Deferred : Type 0 where
  pub named : ℕ
  pub items : List (Item ℕ)

-- an item with another term
abbrev pub with_term : Item ℕ → Term → Item ℕ
with_term (GoalItem t h) now = GoalItem now h
with_term (CatchMark h) now = CatchMark h
with_term (CollectMark t h) now = CollectMark now h
with_term (RemovalItem number) now = RemovalItem number

-- items with the terms that they have now, one by one
abbrev pub items_now : List (Item ℕ) → List NamedTerm → List (Item ℕ)
items_now [] named = []
items_now (i ∷ items) [] = []
items_now (i ∷ items) (v ∷ named) = with_term i v.term ∷ items_now items named

-- what is deferred, as it is now
abbrev pub deferred_now : Deferred → Continuation ℕ → List (Item ℕ)
deferred_now d f = items_now d.items (drop d.named f.named)

-- what is deferred in the place of what stands for it
abbrev pub joined_items : List (Item ℕ) → List (Item ℕ) → List (Item ℕ)
joined_items now [] = []
joined_items now (GoalItem t h ∷ items) = GoalItem t h ∷ joined_items now items
joined_items now (CatchMark h ∷ items) = CatchMark h ∷ joined_items now items
joined_items now (CollectMark t h ∷ items) = CollectMark t h ∷ joined_items now items
joined_items now (RemovalItem number ∷ items) = drop number now ++ joined_items now items

-- what is left to do, with what is deferred
abbrev pub joined_continuation : Deferred → Continuation ℕ → Continuation ℕ
joined_continuation d f = record { items = joined_items (deferred_now d f) f.items; named = take d.named f.named; next = f.next }

abbrev pub joined_entry : Deferred → Entry → Entry
joined_entry d (PlainEntry f) = PlainEntry (joined_continuation d f)
joined_entry d (CatchEntry c r f) = CatchEntry c r (joined_continuation d f)
joined_entry d (FindallEntry results l f) = FindallEntry results l (joined_continuation d f)
joined_entry d (EndEntry b) = EndEntry b

-- the term of an item, where it has one, as a named term
abbrev pub carried_term : Item ℕ → NamedTerm
carried_term (GoalItem t h) = record { name = []; term = t }
carried_term (CatchMark h) = record { name = []; term = AtomTerm [] }
carried_term (CollectMark t h) = record { name = []; term = t }
carried_term (RemovalItem number) = record { name = []; term = AtomTerm [] }

-- all that is left to do deferred, and what stands for it
abbrev pub all_deferred : Continuation ℕ → Deferred
all_deferred f = record { named = length f.named; items = f.items }

abbrev pub deferring : Continuation ℕ → Continuation ℕ
deferring f = record { items = RemovalItem 0 ∷ []; named = f.named ++ map carried_term f.items; next = f.next }

-- what is deferred at the start, once its terms are bound
abbrev pub IsBoundNow : Type 0
IsBoundNow =
    (s : Substitution) (start f : Continuation ℕ) → f.named ≡ map (resolve_named s) (deferring start).named
    → deferred_now (all_deferred start) f ≡ map (resolve_item s) start.items
