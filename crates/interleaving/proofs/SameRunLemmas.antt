-- The tree's private run is the run of own entries over a floor.
use Rattle.std.proofs.Common.{◌≡◌, ◌≤◌, arith, ◌⊎◌, inl, inr, ℕ, zero, suc, ◌-◌, Bool, true, false, cond, List, [], ◌∷◌, ◌++◌}
use Rattle.std.proofs.Common.{length, Option, Some, None, refl, sym, ap, ◌∙◌}
use Rattle.std.specs.Prelude.{nat_lt, nat_le}
use Rattle.run_model.specs.Programs.Clauses.{Clause}
use Rattle.run_model.specs.Goals.Outcomes.{Solutions, Ball, HaltNumber, ControlForm, GoesOnWith, EitherOf, TestOf, CutToScope, CatchOf}
use Rattle.run_model.specs.Goals.Outcomes.{FindallOf, Outcome, Replies, Controls, AskWorld}
use Rattle.run_model.specs.Goals.GoalOutcomes.{outcome_of}
use Rattle.run_model.specs.Machine.Heights.{after_control}
use Rattle.run_model.specs.Machine.Items.{Item, GoalItem, CatchMark, CollectMark, RemovalItem, Continuation, with_items, without_marks}
use Rattle.run_model.specs.Machine.Items.{first_mark}
use Rattle.run_model.specs.Machine.Entries.{Entry, PlainEntry, CatchEntry, FindallEntry, EndEntry, collected}
use Rattle.run_model.specs.Machine.Balls.{unwound}
use Rattle.tree_model.specs.Nodes.{CutGate, BallGate}
use Rattle.tree_model.specs.Levels.{Level}
use Rattle.tree_model.specs.Floors.{node_of, floor_of}
use Rattle.tree_model.specs.Gates.{ball_scope, ball_gate, control_gate, goal_gate, item_gate, gate_on}
use Rattle.tree_model.specs.PrivateRuns.{own_free_step, own_free_steps, own_part, goal_alone, item_alone, taken_alone, if_no_gate}
use Rattle.tree_model.specs.PrivateRuns.{own_after, one_more, if_any, private_run}
use Rattle.interleaving.specs.OwnRuns.{caught_own, own_control, own_goal, own_item, own_left}
use Rattle.interleaving.specs.OwnRuns.{own_more, own_run}
use Rattle.run_model.proofs.FreeStepLemmas.{length-collected}
use Rattle.interleaving.proofs.EntryLemmas.{length-floor}

caught_own_same : (levels : List Level) (es : List Entry) → if_no_gate (ball_gate levels es) (Some es) ≡ caught_own (length levels) es
caught_own_same levels [] = refl
caught_own_same levels (EndEntry b ∷ es) = refl
caught_own_same levels (CatchEntry c r f ∷ es) = refl
caught_own_same levels (FindallEntry results l f ∷ es) = refl
caught_own_same levels (PlainEntry f ∷ es) = go (nat_le (length levels) (length es))
  where
    go : (b : Bool) → if_no_gate (cond b None (Some (BallGate (ball_scope levels (PlainEntry f ∷ es))))) (Some (PlainEntry f ∷ es))
        ≡ cond b (Some (PlainEntry f ∷ es)) None
    go true = refl
    go false = refl

control_same : (levels : List Level) (form : ControlForm) (h : ℕ) (f : Continuation ℕ) (es : List Entry)
    → if_no_gate (control_gate levels form h) (Some (after_control form h f es)) ≡ own_control form h f es (length levels)
control_same levels (GoesOnWith gs) h f es = refl
control_same levels (EitherOf gs others) h f es = refl
control_same levels (TestOf gs thens others) h f es = refl
control_same levels (CatchOf g c r) h f es = refl
control_same levels (FindallOf t g l) h f es = refl
control_same levels CutToScope h f es = go (nat_lt h (length levels))
  where
    go : (b : Bool) → if_no_gate (cond b (Some (CutGate (node_of levels h))) None) (Some (after_control CutToScope h f es))
        ≡ cond b None (Some (after_control CutToScope h f es))
    go true = refl
    go false = refl

goal_same : (levels : List Level) (o : Outcome) (h : ℕ) (f : Continuation ℕ) (es : List Entry)
    → if_no_gate (goal_gate levels o h f es) (Some (goal_alone o h f es)) ≡ own_goal o h f es (length levels)
goal_same levels (Replies (Solutions ss)) h f es = refl
goal_same levels (Replies (Ball b)) h f es = caught_own_same levels (unwound b (first_mark f.items) es)
goal_same levels (Replies (HaltNumber k)) h f es = refl
goal_same levels (Controls form) h f es = control_same levels form h f es
goal_same levels (AskWorld goal) h f es = refl

item_same : (clauses : List Clause) (levels : List Level) (items : List (Item ℕ)) (f : Continuation ℕ) (es : List Entry)
    → if_no_gate (item_gate clauses levels items f es) (item_alone clauses items f es) ≡ own_item clauses items f es (length levels)
item_same clauses levels [] f es = refl
item_same clauses levels (CatchMark m ∷ items) f es = refl
item_same clauses levels (CollectMark t m ∷ items) f es = refl
item_same clauses levels (RemovalItem n ∷ items) f es = refl
item_same clauses levels (GoalItem t m ∷ items) f es = goal_same levels (outcome_of clauses t f.next) m (with_items items f) es

-- entries whose free steps are taken: no catch mark is in front, or a collect mark of the floor after some
abbrev Collects : List (Item ℕ) → Type 0
Collects (CollectMark t m ∷ items) = Unit {0}
Collects (GoalItem t m ∷ items) = ⊥
Collects (CatchMark m ∷ items) = ⊥
Collects (RemovalItem n ∷ items) = ⊥
Collects [] = ⊥

abbrev IsTop : List Entry → Type 0
IsTop [] = Unit {0}
IsTop (PlainEntry f ∷ es) = (without_marks f.items ≡ f.items) ⊎ Collects (without_marks f.items)
IsTop (EndEntry b ∷ es) = Unit {0}
IsTop (CatchEntry c r f ∷ es) = Unit {0}
IsTop (FindallEntry results l f ∷ es) = Unit {0}

marks_twice : (items : List (Item ℕ)) → without_marks (without_marks items) ≡ without_marks items
marks_twice [] = refl
marks_twice (CatchMark m ∷ items) = marks_twice items
marks_twice (GoalItem t m ∷ items) = refl
marks_twice (CollectMark t m ∷ items) = refl
marks_twice (RemovalItem n ∷ items) = refl

plain_step_top : (floor es : List Entry) (items : List (Item ℕ)) (f : Continuation ℕ) (go : List Entry → List Entry)
    → without_marks f.items ≡ items → ((ds : List Entry) → length ds ≡ length es → IsTop (go ds))
    → IsTop (own_free_step items f es floor go)
plain_step_top floor es [] f go q g = inl refl
plain_step_top floor es (GoalItem t m ∷ items) f go q g = inl refl
plain_step_top floor es (CatchMark m ∷ items) f go q g = inl (sym (twice (sym q)))
  where
    twice : CatchMark m ∷ items ≡ without_marks f.items → CatchMark m ∷ items ≡ without_marks (CatchMark m ∷ items)
    twice e = e ∙ (sym (marks_twice f.items) ∙ ap without_marks (sym e))
plain_step_top floor es (RemovalItem n ∷ items) f go q g = inl refl
plain_step_top floor es (CollectMark t m ∷ items) f go q g = pick (nat_lt m (length floor))
  where
    pick : (b : Bool) → IsTop (cond b (PlainEntry (with_items (CollectMark t m ∷ items) f) ∷ es) (go (collected (m - length floor) t es)))
    pick true = inr tt
    pick false = g (collected (m - length floor) t es) (length-collected (m - length floor) t es)

free_steps_top : (floor : List Entry) (k : ℕ) (es : List Entry) → length es ≤ k → IsTop (own_free_steps floor k es)
free_steps_top floor zero [] l = tt
free_steps_top floor zero (e ∷ es) l = let no_way : ⊥ = omega arith in absurd no_way
free_steps_top floor (suc k) [] l = tt
free_steps_top floor (suc k) (CatchEntry x r f ∷ es) l = free_steps_top floor k es (omega arith)
free_steps_top floor (suc k) (FindallEntry results x f ∷ es) l = inl refl
free_steps_top floor (suc k) (PlainEntry f ∷ es) l = plain_step_top floor es (without_marks f.items) f (own_free_steps floor k) refl
    (λ ds e. free_steps_top floor k ds (omega (arith, e)))
free_steps_top floor (suc k) (EndEntry b ∷ es) l = tt

-- one more inference
collect_rests : (clauses : List Clause) (levels : List Level) (items : List (Item ℕ)) (f : Continuation ℕ) (es : List Entry)
    → Collects items → if_no_gate (item_gate clauses levels items f es) (item_alone clauses items f es) ≡ None
collect_rests clauses levels (CollectMark t m ∷ items) f es c = refl
collect_rests clauses levels (GoalItem t m ∷ items) f es c = absurd c
collect_rests clauses levels (CatchMark m ∷ items) f es c = absurd c
collect_rests clauses levels (RemovalItem n ∷ items) f es c = absurd c
collect_rests clauses levels [] f es c = absurd c

after_marks : (clauses : List Clause) (items : List (Item ℕ)) (f : Continuation ℕ) (es : List Entry) (low : ℕ)
    → Collects (without_marks items) → own_item clauses items f es low ≡ None
after_marks clauses (CollectMark t m ∷ items) f es low c = refl
after_marks clauses (CatchMark m ∷ items) f es low c = refl
after_marks clauses (GoalItem t m ∷ items) f es low c = absurd c
after_marks clauses (RemovalItem n ∷ items) f es low c = absurd c
after_marks clauses [] f es low c = absurd c

plain_same : (clauses : List Clause) (levels : List Level) (f : Continuation ℕ) (es : List Entry) → IsTop (PlainEntry f ∷ es)
    → if_no_gate (gate_on clauses levels (PlainEntry f ∷ (es ++ floor_of levels)))
    (taken_alone clauses (PlainEntry f ∷ (es ++ floor_of levels))) ≡ own_item clauses f.items f (es ++ floor_of levels)
    (length (floor_of levels))
plain_same clauses levels f es (inl q) =
    ap (λ items. if_no_gate (item_gate clauses levels items f (es ++ floor_of levels))
    (item_alone clauses items f (es ++ floor_of levels))) q
    ∙ (item_same clauses levels f.items f (es ++ floor_of levels) ∙ ap (own_item clauses f.items f (es ++ floor_of levels))
    (sym (length-floor levels)))
plain_same clauses levels f es (inr c) = collect_rests clauses levels (without_marks f.items) f (es ++ floor_of levels) c
    ∙ sym (after_marks clauses f.items f (es ++ floor_of levels) (length (floor_of levels)) c)

left_same : (floor : List Entry) (o : Option (List Entry)) → own_after floor o ≡ own_left floor o
left_same floor None = refl
left_same floor (Some es) = refl

more_same : (clauses : List Clause) (levels : List Level) (es : List Entry) → IsTop es → one_more clauses levels es
    ≡ own_more clauses (floor_of levels) (Some es)
more_same clauses levels [] h = refl
more_same clauses levels (EndEntry b ∷ es) h = refl
more_same clauses levels (CatchEntry c r f ∷ es) h = refl
more_same clauses levels (FindallEntry results l f ∷ es) h = refl
more_same clauses levels (PlainEntry f ∷ es) h = ap (own_after (floor_of levels)) (plain_same clauses levels f es h)
    ∙ left_same (floor_of levels) (own_item clauses f.items f (es ++ floor_of levels) (length (floor_of levels)))

-- the runs
abbrev IsTopOf : Option (List Entry) → Type 0
IsTopOf None = Unit {0}
IsTopOf (Some es) = IsTop es

after_top : (floor : List Entry) (o : Option (List Entry)) → IsTopOf (own_after floor o)
after_top floor None = tt
after_top floor (Some es) = free_steps_top floor (length (own_part floor es)) (own_part floor es) (omega arith)

more_top : (clauses : List Clause) (levels : List Level) (es : List Entry) → IsTopOf (one_more clauses levels es)
more_top clauses levels [] = tt
more_top clauses levels (e ∷ es) = after_top (floor_of levels)
    (if_no_gate (gate_on clauses levels ((e ∷ es) ++ floor_of levels)) (taken_alone clauses ((e ∷ es) ++ floor_of levels)))

any_top : (clauses : List Clause) (levels : List Level) (o : Option (List Entry)) → IsTopOf (if_any o (one_more clauses levels))
any_top clauses levels None = tt
any_top clauses levels (Some es) = more_top clauses levels es

any_same : (clauses : List Clause) (levels : List Level) (o : Option (List Entry)) → IsTopOf o → if_any o (one_more clauses levels)
    ≡ own_more clauses (floor_of levels) o
any_same clauses levels None h = refl
any_same clauses levels (Some es) h = more_same clauses levels es h

run_top : (clauses : List Clause) (levels : List Level) (e : Entry) (k : ℕ) → IsTopOf (private_run clauses levels e k)
unfolding private_run
run_top clauses levels e zero = free_steps_top (floor_of levels) 1 (e ∷ []) (omega arith)
run_top clauses levels e (suc k) = any_top clauses levels (private_run clauses levels e k)

pub same_run : (clauses : List Clause) (levels : List Level) (e : Entry) (k : ℕ) → private_run clauses levels e k
    ≡ own_run clauses (floor_of levels) k (e ∷ [])
unfolding private_run
same_run clauses levels e zero = refl
same_run clauses levels e (suc k) = any_same clauses levels (private_run clauses levels e k) (run_top clauses levels e k)
    ∙ ap (own_more clauses (floor_of levels)) (same_run clauses levels e k)
