-- What a worker does by itself with an alternative: the sequential machine's steps on the alternative's own entries, over
-- the floor of its branch.
use Rattle.std.specs.Prelude.{ℕ, zero, suc, ◌-◌, cond, List, [], ◌∷◌, ◌++◌, Option, Some, None, length, take, nat_lt}
use Rattle.run_model.specs.Programs.Clauses.{Clause}
use Rattle.run_model.specs.Goals.Outcomes.{Outcome, Replies, Controls, AskWorld}
use Rattle.run_model.specs.Machine.Items.{Item, GoalItem, CatchMark, CollectMark, RemovalItem, Continuation, with_items, without_marks}
use Rattle.run_model.specs.Machine.Entries.{Entry, PlainEntry, CatchEntry, FindallEntry, EndEntry, collected}
use Rattle.run_model.specs.Machine.FreeSteps.{findall_ends}
use Rattle.run_model.specs.Machine.Heights.{after_reply, after_control}
use Rattle.run_model.specs.Goals.GoalOutcomes.{outcome_of}
use Rattle.tree_model.specs.Nodes.{Gate}
use Rattle.tree_model.specs.Levels.{Level}
use Rattle.tree_model.specs.Floors.{floor_of}
use Rattle.tree_model.specs.Gates.{gate_on}

-- a collect mark gives its result to its findall entry; where that is one of the floor, it is left standing
abbrev pub own_free_step : List (Item ℕ) → Continuation ℕ → List Entry → List Entry → (List Entry → List Entry) → List Entry
own_free_step (CollectMark t h ∷ items) f es floor go =
    cond (nat_lt h (length floor)) (PlainEntry (with_items (CollectMark t h ∷ items) f) ∷ es) (go (collected (h - length floor) t es))
own_free_step items f es floor go = PlainEntry (with_items items f) ∷ es

-- the free steps of own entries over a floor, where at most so many entries end
abbrev pub own_free_steps : List Entry → ℕ → List Entry → List Entry
own_free_steps floor zero es = es
own_free_steps floor (suc k) [] = []
own_free_steps floor (suc k) (CatchEntry c r f ∷ es) = own_free_steps floor k es
own_free_steps floor (suc k) (FindallEntry results l f ∷ es) = findall_ends results l f (es ++ floor) ∷ es
own_free_steps floor (suc k) (PlainEntry f ∷ es) = own_free_step (without_marks f.items) f es floor (own_free_steps floor k)
own_free_steps floor (suc k) (EndEntry b ∷ es) = EndEntry b ∷ es

abbrev pub own_at_rest : List Entry → List Entry → List Entry
own_at_rest floor es = own_free_steps floor (length es) es

-- the entries of a stack that are over a floor
abbrev pub own_part : List Entry → List Entry → List Entry
own_part floor es = take (length es - length floor) es

-- what takes the place of a goal, where that needs no world
abbrev pub goal_alone : Outcome → ℕ → Continuation ℕ → List Entry → List Entry
goal_alone (Replies r) h f es = after_reply r f es
goal_alone (Controls form) h f es = after_control form h f es
goal_alone (AskWorld goal) h f es = []

abbrev pub item_alone : List Clause → List (Item ℕ) → Continuation ℕ → List Entry → Option (List Entry)
item_alone clauses (GoalItem g h ∷ items) f es = Some (goal_alone (outcome_of clauses g f.next) h (with_items items f) es)
item_alone clauses (CatchMark h ∷ items) f es = None
item_alone clauses (CollectMark t h ∷ items) f es = None
item_alone clauses (RemovalItem number ∷ items) f es = None
item_alone clauses [] f es = None

-- one inference at the top of a stack, by what is after the catch marks in front
abbrev pub taken_alone : List Clause → List Entry → Option (List Entry)
taken_alone clauses (PlainEntry f ∷ es) = item_alone clauses (without_marks f.items) f es
taken_alone clauses (CatchEntry c r f ∷ es) = None
taken_alone clauses (FindallEntry results l f ∷ es) = None
taken_alone clauses (EndEntry b ∷ es) = None
taken_alone clauses [] = None

-- where it is no gate
abbrev pub if_no_gate : Option Gate → Option (List Entry) → Option (List Entry)
if_no_gate None taken = taken
if_no_gate (Some g) taken = None

abbrev pub own_after : List Entry → Option (List Entry) → Option (List Entry)
own_after floor None = None
own_after floor (Some es) = Some (own_at_rest floor (own_part floor es))

-- own entries after one more inference and the free steps after it; none where there is none to take
abbrev pub one_more : List Clause → List Level → List Entry → Option (List Entry)
one_more clauses levels [] = None
one_more clauses levels (e ∷ es) =
    let stack = (e ∷ es) ++ floor_of levels in
    own_after (floor_of levels) (if_no_gate (gate_on clauses levels stack) (taken_alone clauses stack))

abbrev pub if_any : Option (List Entry) → (List Entry → Option (List Entry)) → Option (List Entry)
if_any None more = None
if_any (Some es) more = more es

-- the private run by so many inferences, with heights over the floor
unfoldable pub private_run : List Clause → List Level → Entry → ℕ → Option (List Entry)
private_run clauses levels e zero = Some (own_at_rest (floor_of levels) (e ∷ []))
private_run clauses levels e (suc k) = if_any (private_run clauses levels e k) (one_more clauses levels)
