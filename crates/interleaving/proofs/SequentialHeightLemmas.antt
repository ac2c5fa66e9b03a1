-- The sequential run is the run with heights in which no credit is.
use Rattle.std.proofs.Common.{◌≡◌, ℕ, zero, suc, ◌-◌, ◌+◌, Bool, true, false, cond, List, [], ◌∷◌, ◌++◌, length, drop, ◌==◌, Option, Some}
use Rattle.std.proofs.Common.{None, refl, sym, ap, ◌∙◌, subst, arith}
use Rattle.au_term.specs.Term.{Term}
use Rattle.au_model.specs.Terms.Substitutions.{Substitution}
use Rattle.run_model.specs.Programs.Clauses.{Clause}
use Rattle.run_model.specs.Programs.Databases.{Database, without_clause}
use Rattle.run_model.specs.Goals.Worlds.{world_step}
use Rattle.run_model.specs.Goals.Outcomes.{Reply, Solutions, Ball, HaltNumber, ControlForm, GoesOnWith, EitherOf, TestOf, CutToScope}
use Rattle.run_model.specs.Goals.Outcomes.{CatchOf}
use Rattle.run_model.specs.Goals.Outcomes.{FindallOf, Outcome, Replies, Controls, AskWorld}
use Rattle.run_model.specs.Goals.GoalOutcomes.{outcome_of}
use Rattle.run_model.specs.Machine.Items.{Item, GoalItem, CatchMark, CollectMark, RemovalItem, Continuation, with_items, without_marks}
use Rattle.run_model.specs.Machine.Items.{first_mark}
use Rattle.run_model.specs.Machine.Entries.{Entry, PlainEntry, CatchEntry, FindallEntry, EndEntry, solution_entries, with_result, collected}
use Rattle.run_model.specs.Machine.Balls.{taken_by, next_mark, recovered, unwound}
use Rattle.run_model.specs.Machine.Heights.{after_reply, after_control}
use Rattle.run_model.specs.Machine.FreeSteps.{plain_free_step, free_steps_within, take_free_steps, HasNoFreeStep, HaveNoMarkFirst}
use Rattle.run_model.specs.Programs.Jobs.{Job}
use Rattle.run_model.specs.Machine.States.{State, opened, goal_taken, removal_taken, item_taken, entry_taken, step, with_free_steps}
use Rattle.run_model.specs.Machine.Runs.{seq}
use Rattle.run_model.proofs.StepLemmas.{step_is, no_step, seq-zero, seq-suc}
use Rattle.run_model.proofs.RunLemmas.{runs_have_no_free_step, is_stopped}
use Rattle.interleaving.specs.Machine.{is_finished}
use Rattle.interleaving.specs.Scopes.{shared}
use Rattle.interleaving.specs.HeightMachine.{HeightEntry, HeightState, height_entries, height_recovered, height_unwound, height_reply}
use Rattle.interleaving.specs.HeightMachine.{height_control}
use Rattle.interleaving.specs.HeightMachine.{height_goal, height_removed, height_item, height_taken, height_collected}
use Rattle.interleaving.specs.HeightMachine.{height_plain_free_step}
use Rattle.interleaving.specs.HeightMachine.{height_free_steps_within, height_at_rest, height_inference, height_run}
use Rattle.interleaving.specs.Counted.{counted_steps}
use Rattle.interleaving.specs.SequentialHeights.{height_opening, height_after, IsHeightRun}

pub length-height : (es : List Entry) → length (height_entries es) ≡ length es
length-height [] = refl
length-height (e ∷ es) = ap suc (length-height es)

pub height-append : (es ds : List Entry) → height_entries (es ++ ds) ≡ height_entries es ++ height_entries ds
height-append [] ds = refl
height-append (e ∷ es) ds = ap (λ xs. HeightEntry e ∷ xs) (height-append es ds)

pub height-drop : (k : ℕ) (es : List Entry) → drop k (height_entries es) ≡ height_entries (drop k es)
height-drop zero es = refl
height-drop (suc k) [] = refl
height-drop (suc k) (e ∷ es) = height-drop k es

height-recovered : (o : Option Substitution) (ball r : Term) (f : Continuation ℕ) (es further : List Entry)
    → height_recovered o ball r f (height_entries es) (height_entries further) ≡ height_entries (recovered o ball r f es further)
height-recovered None ball r f es further = refl
height-recovered (Some s) ball r f es further = rw (length-height es)

pub height-unwound : (ball : Term) (mark : Option ℕ) (es : List Entry) → height_unwound ball mark (height_entries es)
    ≡ height_entries (unwound ball mark es)
height-unwound ball mark [] = refl
height-unwound ball mark (PlainEntry f ∷ es) = height-unwound ball mark es
height-unwound ball mark (FindallEntry results l f ∷ es) = height-unwound ball mark es
height-unwound ball mark (EndEntry b ∷ es) = height-unwound ball mark es
height-unwound ball mark (CatchEntry c r f ∷ es) =
    ap (λ n. height_recovered (taken_by mark n ball c f) ball r f (height_entries es)
    (height_unwound ball (next_mark mark n f) (height_entries es))) (length-height es)
    ∙ ap (height_recovered (taken_by mark (length es) ball c f) ball r f (height_entries es))
    (height-unwound ball (next_mark mark (length es) f) es) ∙ height-recovered (taken_by mark (length es) ball c f) ball r f es
    (unwound ball (next_mark mark (length es) f) es)

pub height-reply : (r : Reply) (f : Continuation ℕ) (es : List Entry) → height_reply r f (height_entries es)
    ≡ height_entries (after_reply r f es)
height-reply (Solutions ss) f es = ap (λ n. height_entries (solution_entries n f ss) ++ height_entries es) (length-height es)
    ∙ sym (height-append (solution_entries (length es) f ss) es)
height-reply (Ball b) f es = height-unwound b (first_mark f.items) es
height-reply (HaltNumber k) f es = refl

pub height-control : (o : ControlForm) (h : ℕ) (f : Continuation ℕ) (es : List Entry) → height_control o h f (height_entries es)
    ≡ height_entries (after_control o h f es)
height-control (GoesOnWith gs) h f es = rw (length-height es)
height-control (EitherOf gs others) h f es = refl
height-control (TestOf gs thens others) h f es = rw (length-height es)
height-control CutToScope h f es = ap (λ n. HeightEntry (PlainEntry f) ∷ drop (n - h) (height_entries es)) (length-height es)
    ∙ ap (λ xs. HeightEntry (PlainEntry f) ∷ xs) (height-drop (length es - h) es)
height-control (CatchOf g c r) h f es = rw (length-height es)
height-control (FindallOf t g l) h f es = rw (length-height es)

-- the free steps
pub height-collected : (h : ℕ) (t : Term) (es : List Entry) → height_collected h t (height_entries es) ≡ height_entries (collected h t es)
height-collected h t [] = refl
height-collected h t (e ∷ es) = ap
    (λ n. cond (n == h) (HeightEntry (with_result t e) ∷ height_entries es) (HeightEntry e ∷ height_collected h t (height_entries es)))
    (length-height es) ∙ go (length es == h) (height-collected h t es)
  where
    go : (b : Bool) → height_collected h t (height_entries es) ≡ height_entries (collected h t es)
        → cond b (HeightEntry (with_result t e) ∷ height_entries es) (HeightEntry e ∷ height_collected h t (height_entries es))
        ≡ height_entries (cond b (with_result t e ∷ es) (e ∷ collected h t es))
    go true k = refl
    go false k = ap (λ xs. HeightEntry e ∷ xs) k

height-takes_free : (items : List (Item ℕ)) (f : Continuation ℕ) (es : List Entry) (k : ℕ)
    → ((ds : List Entry) → height_free_steps_within k (height_entries ds) ≡ height_entries (free_steps_within k ds))
    → height_plain_free_step items f (height_entries es) (height_free_steps_within k)
    ≡ height_entries (plain_free_step items f es (free_steps_within k))
height-takes_free [] f es k h = refl
height-takes_free (GoalItem t n ∷ items) f es k h = refl
height-takes_free (CatchMark n ∷ items) f es k h = refl
height-takes_free (RemovalItem n ∷ items) f es k h = refl
height-takes_free (CollectMark t n ∷ items) f es k h = ap (height_free_steps_within k) (height-collected n t es) ∙ h (collected n t es)

height-free_steps_within : (k : ℕ) (es : List Entry) → height_free_steps_within k (height_entries es)
    ≡ height_entries (free_steps_within k es)
height-free_steps_within zero es = refl
height-free_steps_within (suc k) [] = refl
height-free_steps_within (suc k) (CatchEntry c r f ∷ es) = height-free_steps_within k es
height-free_steps_within (suc k) (FindallEntry results l f ∷ es) = rw (length-height es)
height-free_steps_within (suc k) (PlainEntry f ∷ es) = height-takes_free (without_marks f.items) f es k (height-free_steps_within k)
height-free_steps_within (suc k) (EndEntry b ∷ es) = refl

height-take_free : (es : List Entry) → height_at_rest (height_entries es) ≡ height_entries (take_free_steps es)
height-take_free es = ap (λ n. height_free_steps_within n (height_entries es)) (length-height es) ∙ height-free_steps_within (length es) es

-- one inference
record Pending (s : HeightState) (st new : State) : Type 0 where
  pub state : s.0 ≡ shared new
  pub entries : s.1 ≡ height_entries new.entries
  pub inferences : new.inferences ≡ st.inferences + 1

goal-erases : (clauses : List Clause) (o : Outcome) (h : ℕ) (f : Continuation ℕ) (es : List Entry) (st : State) → st.halted ≡ None
    → Pending (height_goal clauses o h f (height_entries es) (shared st)) st (goal_taken clauses o h f es st)
goal-erases clauses (Replies (Solutions ss)) h f es st e = record
    { state = ap (λ k. record (shared st) { halted = k }) e; entries = height-reply (Solutions ss) f es; inferences = refl }
goal-erases clauses (Replies (Ball b)) h f es st e = record
    { state = ap (λ k. record (shared st) { halted = k }) e; entries = height-reply (Ball b) f es; inferences = refl }
goal-erases clauses (Replies (HaltNumber k)) h f es st e = record { state = refl; entries = refl; inferences = refl }
goal-erases clauses (Controls form) h f es st e = record { state = refl; entries = height-control form h f es; inferences = refl }
goal-erases clauses (AskWorld g) h f es st e = record
    { state = refl; entries = height-reply (world_step clauses g f.next st.world).1 f es; inferences = refl }

removal-erases : (o : Option Database) (f : Continuation ℕ) (es : List Entry) (st : State)
    → Pending (height_removed o f (height_entries es) (shared st)) st (removal_taken o f es st)
removal-erases None f es st = record { state = refl; entries = refl; inferences = refl }
removal-erases (Some db) f es st = record { state = refl; entries = refl; inferences = refl }

item-erases : (clauses : List Clause) (items : List (Item ℕ)) (f : Continuation ℕ) (es : List Entry) (st : State) → HaveNoMarkFirst items
    → st.halted ≡ None → Pending (height_item clauses items f (height_entries es) (shared st)) st (item_taken clauses items f es st)
item-erases clauses [] f es st s e = record { state = refl; entries = refl; inferences = refl }
item-erases clauses (GoalItem g h ∷ items) f es st s e = goal-erases clauses (outcome_of clauses g f.next) h (with_items items f) es st e
item-erases clauses (RemovalItem n ∷ items) f es st s e = removal-erases (without_clause n st.world.database) (with_items items f) es st
item-erases clauses (CatchMark h ∷ items) f es st s e = absurd s
item-erases clauses (CollectMark t h ∷ items) f es st s e = absurd s

entry-erases : (clauses : List Clause) (x : Entry) (es : List Entry) (st : State) → HasNoFreeStep (x ∷ es) → st.halted ≡ None
    → Pending (height_taken clauses (shared st) (height_entries (x ∷ es))) st (entry_taken clauses (x ∷ es) st)
entry-erases clauses (PlainEntry f) es st s e = item-erases clauses f.items f es st s e
entry-erases clauses (EndEntry b) es st s e = record { state = refl; entries = refl; inferences = refl }
entry-erases clauses (CatchEntry c r f) es st s e = absurd s
entry-erases clauses (FindallEntry results l f) es st s e = absurd s

record Agrees (s : HeightState) (st : State) : Type 0 where
  pub state : s.0 ≡ shared st
  pub entries : s.1 ≡ height_entries st.entries

none_halted : (o : Option ℕ) → ((k : ℕ) → o ≡ Some k → ⊥) → o ≡ None
none_halted None h = refl
none_halted (Some k) h = absurd (h k refl)

is_entry : (e : Entry) (es : List Entry) → e ∷ es ≡ [] → ⊥
is_entry e es h = cc

record Went (job : Job) (s : HeightState) (n : ℕ) : Type 0 where
  pub agrees : Agrees (height_inference job.clauses s) (seq job (suc n))
  pub inferences : (seq job (suc n)).inferences ≡ (seq job n).inferences + cond (is_finished s.1) 0 1

went : (job : Job) (n : ℕ) (s : HeightState) → Agrees s (seq job n) → (es : List Entry) → (seq job n).entries ≡ es → Went job s n
went job n s a [] h =
    let st = seq job n in
    let stays : seq job (suc n) ≡ st = seq-suc job n ∙ ap with_free_steps (no_step job.clauses st h)
    ∙ (ap (λ es. record st { entries = take_free_steps es }) h ∙ ap (λ es. record st { entries = es }) (sym h)) in
    let over : s.1 ≡ [] = a.entries ∙ ap height_entries h in
    let none : height_inference job.clauses s ≡ (s.0, []) = ap (λ xs. height_inference job.clauses (s.0, xs)) over in
    let world : s.0 ≡ shared (seq job (suc n)) = a.state ∙ ap shared (sym stays) in
    let left : [] ≡ height_entries (seq job (suc n)).entries = sym (ap (λ t. height_entries t.entries) stays ∙ ap height_entries h) in
    let same : st.inferences ≡ st.inferences + cond (is_finished s.1) 0 1 = (let e : st.inferences ≡ st.inferences + 0 = omega arith in e)
    ∙ ap (λ xs. st.inferences + cond (is_finished xs) 0 1) (sym over) in
    record {
      agrees = subst (λ t. Agrees t (seq job (suc n))) (sym none) (record { state = world; entries = left });
      inferences = ap
          (λ t. t.inferences) stays ∙ same;
    }
went job n s a (x ∷ es) h =
    let st = seq job n in
    let taken : step job.clauses st ≡ entry_taken job.clauses (x ∷ es) st = step_is job.clauses st
    ∙ ap (λ is. entry_taken job.clauses is st) h in
    let going : st.halted ≡ None = none_halted st.halted (λ k e. is_entry x es (sym h ∙ (is_stopped job n).halted k e)) in
    let one = entry-erases job.clauses x es st (subst HasNoFreeStep h (runs_have_no_free_step job n)) going in
    let new : seq job (suc n) ≡ with_free_steps (entry_taken job.clauses (x ∷ es) st) = seq-suc job n ∙ ap with_free_steps taken in
    let now : s ≡ (shared st, height_entries (x ∷ es)) = ap (λ w. (w, s.1)) a.state
    ∙ ap (λ xs. (shared st, xs)) (a.entries ∙ ap height_entries h) in
    let moved : height_inference job.clauses s ≡ height_inference job.clauses (shared st, height_entries (x ∷ es)) = ap
    (height_inference job.clauses) now in
    let next = entry_taken job.clauses (x ∷ es) st in
    let after : Agrees (height_inference job.clauses (shared st, height_entries (x ∷ es))) (with_free_steps next) = record
    { state = one.state; entries = ap height_at_rest one.entries ∙ height-take_free next.entries } in
    let on : cond (is_finished s.1) 0 1 ≡ 1 = ap (λ t. cond (is_finished t.1) 0 1) now in
    record {
      agrees = subst (λ t. Agrees t (seq job (suc n))) (sym moved)
          (subst (Agrees (height_inference job.clauses (shared st, height_entries (x ∷ es)))) (sym new) after);
      inferences = ap (λ t. t.inferences) new ∙ one.inferences ∙ ap (λ k. st.inferences + k) (sym on);
    }

height_run-suc : (clauses : List Clause) (n : ℕ) (s : HeightState) → height_run clauses (suc n) s
    ≡ height_inference clauses (height_run clauses n s)
height_run-suc clauses zero s = refl
height_run-suc clauses (suc n) s = height_run-suc clauses n (height_inference clauses s)

agrees : (job : Job) (n : ℕ) → Agrees (height_after job n) (seq job n)
agrees job zero = subst (Agrees (height_opening job)) (sym (seq-zero job))
    (record { state = refl; entries = height-take_free (opened job.queries) })
agrees job (suc n) = subst (λ t. Agrees t (seq job (suc n))) (sym (height_run-suc job.clauses n (height_opening job)))
    (went job n (height_after job n) (agrees job n) (seq job n).entries refl).agrees

inferences-counted : (job : Job) (n : ℕ) → (seq job n).inferences ≡ counted_steps (λ k. is_finished (height_after job k).1) n
inferences-counted job zero = ap (λ t. t.inferences) (seq-zero job)
inferences-counted job (suc n) = (went job n (height_after job n) (agrees job n) (seq job n).entries refl).inferences
    ∙ ap (λ k. k + cond (is_finished (height_after job n).1) 0 1) (inferences-counted job n)

pub seq_height : (job : Job) (n : ℕ) → IsHeightRun job n
seq_height job n = record { entries = (agrees job n).entries; state = (agrees job n).state; inferences = inferences-counted job n }
