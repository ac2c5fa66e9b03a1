-- A region's own entries, over a bare floor that has the heights of its branch, and what they stand for over the branch's
-- true floor.
use Rattle.std.specs.Prelude.{◌≡◌, ℕ, zero, suc, ◌≤◌, ◌<◌, List, [], ◌∷◌, ◌++◌, Some, None, map, length}
use Rattle.au_term.specs.Term.{Term}
use Rattle.au_model.specs.Terms.Each.{Each}
use Rattle.run_model.specs.Programs.Clauses.{Clause}
use Rattle.run_model.specs.Machine.Items.{Item, GoalItem, CatchMark, CollectMark, RemovalItem, Continuation, before}
use Rattle.run_model.specs.Machine.Entries.{Entry, PlainEntry, CatchEntry, FindallEntry, EndEntry}
use Rattle.tree_model.specs.Levels.{Level}
use Rattle.tree_model.specs.Floors.{floor_of}
use Rattle.tree_model.specs.PrivateRuns.{own_at_rest, one_more}
use Rattle.region_floor.specs.Deferred.{Deferred, joined_entry}

-- an end for each node, at which every free step and every ball stops
abbrev pub bare_floor : ℕ → List Entry
bare_floor zero = []
bare_floor (suc n) = EndEntry None ∷ bare_floor n

-- own items: their marks are not those of the floor, and what stands for what is deferred comes last
abbrev pub AreOwnItems : ℕ → List (Item ℕ) → Type 0
AreOwnItems n [] = Unit {0}
AreOwnItems n (GoalItem t h ∷ items) = AreOwnItems n items
AreOwnItems n (CatchMark h ∷ items) = (n ≤ h) × AreOwnItems n items
AreOwnItems n (CollectMark t h ∷ items) = (n ≤ h) × AreOwnItems n items
AreOwnItems n (RemovalItem number ∷ items) = items ≡ []

abbrev pub IsOwnEntry : ℕ → Entry → Type 0
IsOwnEntry n (PlainEntry f) = AreOwnItems n f.items
IsOwnEntry n (CatchEntry c r f) = AreOwnItems n f.items
IsOwnEntry n (FindallEntry results l f) = AreOwnItems n f.items
IsOwnEntry n (EndEntry b) = ⊥

abbrev pub AreOwn : ℕ → List Entry → Type 0
AreOwn n es = Each (IsOwnEntry n) es

-- marks of the floor
abbrev pub IsOuterMark : ℕ → Item ℕ → Type 0
IsOuterMark n (GoalItem t h) = Unit {0}
IsOuterMark n (CatchMark h) = h < n
IsOuterMark n (CollectMark t h) = h < n
IsOuterMark n (RemovalItem number) = Unit {0}

-- a goal on top of own entries, what follows it, and the entries under it
pub record TopGoal : Type 0 where
  pub goal : Term
  pub height : ℕ
  pub after : Continuation ℕ
  pub below : List Entry

abbrev pub goal_entries : TopGoal → List Entry
goal_entries t = PlainEntry (before (GoalItem t.goal t.height ∷ []) t.after) ∷ t.below

-- the stack of a region, and the one that it stands for
abbrev pub bare_stack : List Level → List Entry → List Entry
bare_stack levels own = own ++ bare_floor (length levels)

abbrev pub true_stack : Deferred → List Level → List Entry → List Entry
true_stack d levels own = map (joined_entry d) own ++ floor_of levels

-- the own entries that a region stands for, after their free steps
abbrev pub true_rest : Deferred → List Level → List Entry → List Entry
true_rest d levels own = own_at_rest (floor_of levels) (map (joined_entry d) own)

-- a stack has own entries left that come to the same rest
pub record RestsPrivately (d : Deferred) (levels : List Level) (own stack : List Entry) : Type 0 where
  pub left : List Entry
  pub entries : stack ≡ bare_stack levels left
  pub are_own : AreOwn (length levels) left
  pub rest : true_rest d levels own ≡ true_rest d levels left

-- a stack has the own entries that one more inference leaves
pub record InfersPrivately (clauses : List Clause) (d : Deferred) (levels : List Level) (own stack : List Entry) : Type 0 where
  pub left : List Entry
  pub entries : stack ≡ bare_stack levels left
  pub are_own : AreOwn (length levels) left
  pub inferred : one_more clauses levels (map (joined_entry d) own) ≡ Some (true_rest d levels left)
