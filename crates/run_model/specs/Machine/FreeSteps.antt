-- The steps that cost no inference: what happens at the top until a goal, an answer or an end is there.
use Rattle.std.specs.Prelude.{ℕ, zero, suc, List, [], ◌∷◌, length, codes}
use Rattle.au_term.specs.Term.{Term}
use Rattle.au_model.specs.Terms.Forms.{binary, list_term}
use Rattle.run_model.specs.Machine.Items.{Item, GoalItem, CatchMark, CollectMark, RemovalItem, Continuation, with_items, before, without_marks}
use Rattle.run_model.specs.Machine.Entries.{Entry, PlainEntry, CatchEntry, FindallEntry, EndEntry, collected}

-- a findall whose goal has no solution left: its list is unified with the results (8.10.1)
abbrev pub findall_ends : List Term → Term → Continuation ℕ → List Entry → Entry
findall_ends results l f es = PlainEntry (before (GoalItem (binary (codes "=") l (list_term results)) (length es) ∷ []) f)

-- a plain entry with these items after its catch marks: a collect mark in front gives its result, and the entry ends
abbrev pub plain_free_step : List (Item ℕ) → Continuation ℕ → List Entry → (List Entry → List Entry) → List Entry
plain_free_step (CollectMark t h ∷ items) f es go = go (collected h t es)
plain_free_step items f es go = PlainEntry (with_items items f) ∷ es

-- the free steps, where at most so many entries end: a catch whose goal has no solution left is dropped
abbrev pub free_steps_within : ℕ → List Entry → List Entry
free_steps_within zero es = es
free_steps_within (suc k) [] = []
free_steps_within (suc k) (CatchEntry c r f ∷ es) = free_steps_within k es
free_steps_within (suc k) (FindallEntry results l f ∷ es) = findall_ends results l f es ∷ es
free_steps_within (suc k) (PlainEntry f ∷ es) = plain_free_step (without_marks f.items) f es (free_steps_within k)
free_steps_within (suc k) (EndEntry b ∷ es) = EndEntry b ∷ es

-- all free steps
abbrev pub take_free_steps : List Entry → List Entry
take_free_steps es = free_steps_within (length es) es

-- no free step is left on top
abbrev pub HaveNoMarkFirst : List (Item ℕ) → Type 0
HaveNoMarkFirst [] = Unit {0}
HaveNoMarkFirst (GoalItem t h ∷ items) = Unit {0}
HaveNoMarkFirst (RemovalItem number ∷ items) = Unit {0}
HaveNoMarkFirst (CatchMark h ∷ items) = ⊥
HaveNoMarkFirst (CollectMark t h ∷ items) = ⊥

abbrev pub HasNoFreeStep : List Entry → Type 0
HasNoFreeStep [] = Unit {0}
HasNoFreeStep (PlainEntry f ∷ es) = HaveNoMarkFirst f.items
HasNoFreeStep (CatchEntry c r f ∷ es) = ⊥
HasNoFreeStep (FindallEntry results l f ∷ es) = ⊥
HasNoFreeStep (EndEntry b ∷ es) = Unit {0}
