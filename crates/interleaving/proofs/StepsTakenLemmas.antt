-- Private work and gates are steps of the sequential machine.
use Rattle.std.proofs.Common.{◌≡◌, ℕ, Bool, true, false, cond, List, [], ◌∷◌, length, Option, Some, None, refl, sym, ap, ◌∙◌, subst, ◌++◌}
use Rattle.std.specs.Prelude.{nat_lt}
use Rattle.run_model.specs.Programs.Clauses.{Clause}
use Rattle.run_model.specs.Programs.Databases.{Database, without_clause}
use Rattle.run_model.specs.Goals.Outcomes.{Reply, Solutions, Ball, HaltNumber, ControlForm, GoesOnWith, EitherOf, TestOf, CutToScope}
use Rattle.run_model.specs.Goals.Outcomes.{CatchOf}
use Rattle.run_model.specs.Goals.Outcomes.{FindallOf, Outcome, Replies, Controls, AskWorld}
use Rattle.run_model.specs.Goals.GoalOutcomes.{outcome_of}
use Rattle.run_model.specs.Goals.Worlds.{World, world_step}
use Rattle.run_model.specs.Machine.Items.{Item, GoalItem, CatchMark, CollectMark, RemovalItem, Continuation, with_items}
use Rattle.run_model.specs.Machine.Entries.{Entry, PlainEntry}
use Rattle.run_model.specs.Machine.States.{State, goal_taken, replied, removal_taken, item_taken, step}
use Rattle.tree_model.specs.Nodes.{CutGate, WorldGate, Pending, Hold}
use Rattle.tree_model.specs.Levels.{Level, plug}
use Rattle.tree_model.specs.Floors.{node_of}
use Rattle.tree_model.specs.Gates.{control_gate, goal_gate, item_gate}
use Rattle.tree_model.specs.PrivateRuns.{goal_alone, item_alone}
use Rattle.tree_model.specs.FrontGates.{reply_taken, goal_at_front, removal_at_front, item_at_front}
use Rattle.tree_model.specs.PendingLists.{pending_list}
use Rattle.interleaving.specs.Steps.{stack_after, PrivateIsStep, FrontIsStep}
use Rattle.tree_model.specs.Nodes.{Ready, TakenBy, Waiting, Dormant}
use Rattle.tree_model.specs.Elements.{Credit as CreditElement}
use Rattle.tree_model.specs.PendingLists.{element_on, own_credit, spent_at, front_of, back_of, way_of}
use Rattle.tree_model.specs.SoundTrees.{IsOpen, profile}
use Rattle.interleaving.proofs.ListRoundLemmas.{around}

some_is : {a b : List Entry} → Some a ≡ Some b → a ≡ b
some_is h = cc

goal_step : (clauses : List Clause) (levels : List Level) (o : Outcome) (h : ℕ) (f : Continuation ℕ) (es : List Entry) (st : State)
    → goal_gate levels o h f es ≡ None → ((goal_taken clauses o h f es st).entries ≡ goal_alone o h f es)
    × ((goal_taken clauses o h f es st).world ≡ st.world)
goal_step clauses levels (Replies r) h f es st e = (refl, refl)
goal_step clauses levels (Controls form) h f es st e = (refl, refl)
goal_step clauses levels (AskWorld goal) h f es st e = let no_way : ⊥ = cc in absurd no_way

item_step : (clauses : List Clause) (levels : List Level) (items : List (Item ℕ)) (f : Continuation ℕ) (es : List Entry) (st : State)
    → item_gate clauses levels items f es ≡ None → (left : List Entry) → item_alone clauses items f es ≡ Some left
    → ((item_taken clauses items f es st).entries ≡ left) × ((item_taken clauses items f es st).world ≡ st.world)
item_step clauses levels [] f es st e left h = let no_way : ⊥ = cc in absurd no_way
item_step clauses levels (CatchMark m ∷ items) f es st e left h = let no_way : ⊥ = cc in absurd no_way
item_step clauses levels (CollectMark t m ∷ items) f es st e left h = let no_way : ⊥ = cc in absurd no_way
item_step clauses levels (RemovalItem n ∷ items) f es st e left h = let no_way : ⊥ = cc in absurd no_way
item_step clauses levels (GoalItem t m ∷ items) f es st e left h =
    let k = goal_step clauses levels (outcome_of clauses t f.next) m (with_items items f) es st e in
    (k.0 ∙ some_is h, k.1)

pub private_is_step : PrivateIsStep
unfolding step
private_is_step clauses levels st f es m e left h =
    item_step clauses levels f.items f es (record st { entries = PlainEntry f ∷ es })
    (ap (λ items. item_gate clauses levels items f es) (sym m) ∙ e) left (ap (λ items. item_alone clauses items f es) (sym m) ∙ h)

-- at the front
reply_step : (r : World × Reply) (f : Continuation ℕ) (es : List Entry) (st : State)
    → ((replied r f es st).entries ≡ stack_after (reply_taken r.1 f es) st.queries es) × ((replied r f es st).world ≡ r.0)
reply_step r f es st = (go r.1, refl)
  where
    go : (q : Reply) → (replied (r.0, q) f es st).entries ≡ stack_after (reply_taken q f es) st.queries es
    go (Solutions ss) = refl
    go (Ball b) = refl
    go (HaltNumber k) = refl

no_world : (levels : List Level) (form : ControlForm) (h : ℕ) → control_gate levels form h ≡ Some WorldGate → ⊥
no_world levels CutToScope h e = go (nat_lt h (length levels)) e
  where
    go : (b : Bool) → cond b (Some (CutGate (node_of levels h))) None ≡ Some WorldGate → ⊥
    go true k = cc
    go false k = cc
no_world levels (GoesOnWith gs) h e = cc
no_world levels (EitherOf gs others) h e = cc
no_world levels (TestOf gs thens others) h e = cc
no_world levels (CatchOf g c r) h e = cc
no_world levels (FindallOf x g l) h e = cc

goal_front : (clauses : List Clause) (levels : List Level) (o : Outcome) (h : ℕ) (f : Continuation ℕ) (es : List Entry) (st : State)
    → goal_gate levels o h f es ≡ Some WorldGate →
    ((goal_taken clauses o h f es st).entries ≡ stack_after (goal_at_front clauses o f es st.world).1 st.queries es)
    × ((goal_taken clauses o h f es st).world ≡ (goal_at_front clauses o f es st.world).0)
goal_front clauses levels (Replies r) h f es st e = reply_step (st.world, r) f es st
goal_front clauses levels (Controls form) h f es st e = absurd (no_world levels form h e)
goal_front clauses levels (AskWorld goal) h f es st e = reply_step (world_step clauses goal f.next st.world) f es st

removal_front : (db : Option Database) (f : Continuation ℕ) (es : List Entry) (st : State)
    → ((removal_taken db f es st).entries ≡ stack_after (removal_at_front db f st.world).1 st.queries es)
    × ((removal_taken db f es st).world ≡ (removal_at_front db f st.world).0)
removal_front None f es st = (refl, refl)
removal_front (Some db) f es st = (refl, refl)

item_front : (clauses : List Clause) (levels : List Level) (items : List (Item ℕ)) (f : Continuation ℕ) (es : List Entry) (st : State)
    → item_gate clauses levels items f es ≡ Some WorldGate →
    ((item_taken clauses items f es st).entries ≡ stack_after (item_at_front clauses items f es st.world).1 st.queries es)
    × ((item_taken clauses items f es st).world ≡ (item_at_front clauses items f es st.world).0)
item_front clauses levels [] f es st e = (refl, refl)
item_front clauses levels (CatchMark m ∷ items) f es st e = let no_way : ⊥ = cc in absurd no_way
item_front clauses levels (CollectMark t m ∷ items) f es st e = let no_way : ⊥ = cc in absurd no_way
item_front clauses levels (RemovalItem n ∷ items) f es st e = removal_front (without_clause n st.world.database) (with_items items f) es st
item_front clauses levels (GoalItem t m ∷ items) f es st e = goal_front clauses levels (outcome_of clauses t f.next) m
    (with_items items f) es st e

pub front_is_step : FrontIsStep
unfolding step
front_is_step clauses levels st f es m e =
    subst (λ items. ((item_taken clauses f.items f es (record st { entries = PlainEntry f ∷ es })).entries
    ≡ stack_after (item_at_front clauses items f es st.world).1 st.queries es)
    × ((item_taken clauses f.items f es (record st { entries = PlainEntry f ∷ es })).world
    ≡ (item_at_front clauses items f es st.world).0)) (sym m)
    (item_front clauses levels f.items f es (record st { entries = PlainEntry f ∷ es })
    (ap (λ items. item_gate clauses levels items f es) (sym m) ∙ e))

-- who holds an entry is not seen in the list
pub hold_list : (levels : List Level) (h k : Hold) (e : Entry) → profile (Pending h e) ≡ IsOpen → profile (Pending k e) ≡ IsOpen
    → pending_list (plug levels (Pending h e)) ≡ pending_list (plug levels (Pending k e))
hold_list levels h k e o p =
    around levels (Pending h e)
    ∙ (ap (λ credit. front_of levels ++ ((credit ++ element_on (way_of levels) e ∷ []) ++ back_of levels))
    (one_credit h e (spent_at levels) o ∙ sym (one_credit k e (spent_at levels) p)) ∙ sym (around levels (Pending k e)))
  where
    one_credit : (h : Hold) (e : Entry) (n : ℕ) → profile (Pending h e) ≡ IsOpen → own_credit h n ≡ CreditElement n [] ∷ []
    one_credit Ready e n o = refl
    one_credit (TakenBy w) e n o = refl
    one_credit (Waiting g) e n o = refl
    one_credit Dormant e n o = let no_way : ⊥ = cc in absurd no_way
