-- Private work and gates are steps of the sequential machine, taken over the floor of a branch.
use Rattle.std.specs.Prelude.{◌≡◌, ℕ, List, [], ◌∷◌, ◌++◌, Some, None}
use Rattle.run_model.specs.Programs.Clauses.{Clause}
use Rattle.run_model.specs.Machine.Items.{Continuation, without_marks}
use Rattle.run_model.specs.Machine.Entries.{Entry, PlainEntry}
use Rattle.run_model.specs.Programs.Jobs.{Query}
use Rattle.run_model.specs.Machine.States.{State, opened, step}
use Rattle.tree_model.specs.Nodes.{WorldGate}
use Rattle.tree_model.specs.Levels.{Level}
use Rattle.tree_model.specs.Gates.{gate_on}
use Rattle.tree_model.specs.PrivateRuns.{taken_alone}
use Rattle.tree_model.specs.FrontGates.{Taken, Continues, Answered, Raises, Halts, QueryEnds, taken_at_front}

-- what is on a stack after its top was taken at the front
abbrev pub stack_after : Taken → List Query → List Entry → List Entry
stack_after (Continues new) queries es = new ++ es
stack_after Answered queries es = es
stack_after (Raises left) queries es = left
stack_after (Halts k) queries es = []
stack_after QueryEnds queries es = opened queries

-- where a private inference is taken, it is the machine's, and changes no world
abbrev pub PrivateIsStep : Type 0
PrivateIsStep =
    (clauses : List Clause) (levels : List Level) (st : State) (f : Continuation ℕ) (es : List Entry) → without_marks f.items ≡ f.items
    → gate_on clauses levels (PlainEntry f ∷ es) ≡ None → (left : List Entry)
    → taken_alone clauses (PlainEntry f ∷ es) ≡ Some left →
    ((step clauses (record st { entries = PlainEntry f ∷ es })).entries ≡ left)
    × ((step clauses (record st { entries = PlainEntry f ∷ es })).world ≡ st.world)

-- what is taken at the front is the machine's inference
abbrev pub FrontIsStep : Type 0
FrontIsStep =
    (clauses : List Clause) (levels : List Level) (st : State) (f : Continuation ℕ) (es : List Entry) → without_marks f.items ≡ f.items
    → gate_on clauses levels (PlainEntry f ∷ es) ≡ Some WorldGate →
    ((step clauses (record st { entries = PlainEntry f ∷ es })).entries
    ≡ stack_after (taken_at_front clauses (PlainEntry f ∷ es) st.world).1 st.queries es)
    × ((step clauses (record st { entries = PlainEntry f ∷ es })).world ≡ (taken_at_front clauses (PlainEntry f ∷ es) st.world).0)
