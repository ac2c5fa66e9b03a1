-- The heights that entries of a run carry.
use Rattle.std.proofs.Common.{◌≡◌, ℕ, zero, suc, ◌-◌, ◌+◌, ◌≤◌, min, Bool, true, false, cond, List, [], ◌∷◌, ◌++◌, map, length, take, drop, ◌==◌, Option, Some, None, sym, subst, arith}
use Rattle.std.proofs.lemmas.List.{take-append-drop, length-drop, length-append}
use Rattle.std.specs.Prelude.{codes}
use Rattle.au_term.specs.Term.{Term, AtomTerm}
use Rattle.run_model.specs.Laws.HeightLaws.{HeightsFall, FitsHeight, FitHeights, KeepsLowerPart}
use Rattle.au_model.specs.Terms.Substitutions.{Substitution}
use Rattle.au_model.specs.Terms.Unifier.{unifier}
use Rattle.run_model.specs.Programs.Clauses.{Clause}
use Rattle.run_model.specs.Programs.Databases.{Database, without_clause}
use Rattle.run_model.specs.Goals.Worlds.{world_step}
use Rattle.run_model.specs.Goals.Outcomes.{Solution, Reply, Solutions, Ball, HaltNumber, ControlForm, GoesOnWith, EitherOf, TestOf, CutToScope, CatchOf, FindallOf, Outcome, Replies, Controls, AskWorld}
use Rattle.run_model.specs.Goals.GoalOutcomes.{outcome_of}
use Rattle.run_model.specs.Machine.Items.{Item, GoalItem, CatchMark, CollectMark, RemovalItem, Continuation, resolve_item, goals_at, with_items, before, removal_items, removing, with_next, without_marks, first_mark}
use Rattle.run_model.specs.Machine.Entries.{Entry, PlainEntry, CatchEntry, FindallEntry, EndEntry, lowest, unified, solution_entries, with_result, collected}
use Rattle.run_model.specs.Machine.FreeSteps.{plain_free_step, free_steps_within}
use Rattle.run_model.specs.Machine.Balls.{taken_by, next_mark, recovered, unwound}
use Rattle.run_model.specs.Machine.Heights.{after_reply, after_control}
use Rattle.run_model.specs.Programs.Jobs.{Query, Job}
use Rattle.run_model.specs.Machine.States.{State, opened, goal_taken, removal_taken, item_taken, entry_taken, step}
use Rattle.run_model.specs.Machine.Runs.{seq}
use Rattle.run_model.proofs.FreeStepLemmas.{length-collected}
use Rattle.run_model.proofs.StepLemmas.{along}

-- a cut
pub keeps_lower_part : (h : ℕ) (es : List Entry) → KeepsLowerPart h es
keeps_lower_part h es = record { above = take (length es - h) es; joined = sym (take-append-drop (length es - h) es); height = omega (arith, length-drop (length es - h) es) }

fit-drop : (k : ℕ) (es : List Entry) → FitHeights es → FitHeights (drop k es)
fit-drop zero es h = h
fit-drop (suc k) [] h = h
fit-drop (suc k) (e ∷ es) h = fit-drop k es h.1

-- items
fall-more : (m n : ℕ) → m ≤ n → (items : List (Item ℕ)) → HeightsFall m items → HeightsFall n items
fall-more m n k [] h = tt
fall-more m n k (GoalItem t l ∷ items) h = (omega arith, h.1)
fall-more m n k (CatchMark l ∷ items) h = (omega arith, h.1)
fall-more m n k (CollectMark t l ∷ items) h = (omega arith, h.1)
fall-more m n k (RemovalItem l ∷ items) h = fall-more m n k items h

fall-resolved : (s : Substitution) (n : ℕ) (items : List (Item ℕ)) → HeightsFall n items → HeightsFall n (map (resolve_item s) items)
fall-resolved s n [] h = tt
fall-resolved s n (GoalItem t l ∷ items) h = (h.0, fall-resolved s l items h.1)
fall-resolved s n (CatchMark l ∷ items) h = (h.0, fall-resolved s l items h.1)
fall-resolved s n (CollectMark t l ∷ items) h = (h.0, fall-resolved s l items h.1)
fall-resolved s n (RemovalItem l ∷ items) h = fall-resolved s n items h

-- goals of one height before items that are no higher
fall-goals : (m n : ℕ) → m ≤ n → (gs : List Term) (items : List (Item ℕ)) → HeightsFall m items → HeightsFall n (goals_at m gs ++ items)
fall-goals m n k [] items h = fall-more m n k items h
fall-goals m n k (g ∷ gs) items h = (k, fall-goals m m (omega arith) gs items h)

fall-marks : (n : ℕ) (items : List (Item ℕ)) → HeightsFall n items → HeightsFall n (without_marks items)
fall-marks n [] h = tt
fall-marks n (CatchMark l ∷ items) h = fall-marks n items (fall-more l n (omega arith) items h.1)
fall-marks n (GoalItem t l ∷ items) h = h
fall-marks n (CollectMark t l ∷ items) h = h
fall-marks n (RemovalItem l ∷ items) h = h

fall-removal : (n : ℕ) (number : Option ℕ) (items : List (Item ℕ)) → HeightsFall n items → HeightsFall n (removal_items number ++ items)
fall-removal n None items h = h
fall-removal n (Some k) items h = h

-- solutions, each over the later ones
unified-fit : (n : ℕ) (o : Option Substitution) (f : Continuation ℕ) (rest es : List Entry) → n ≤ length es → HeightsFall n f.items → FitHeights (rest ++ es) → FitHeights ((unified o f ++ rest) ++ es)
unified-fit n None f rest es k h r = r
unified-fit n (Some s) f rest es k h r = (fall-more n (length (rest ++ es)) (omega (arith, length-append rest es)) (map (resolve_item s) f.items) (fall-resolved s n f.items h), r)

solutions-fit : (n : ℕ) (f : Continuation ℕ) (ss : List Solution) (es : List Entry) → n ≤ length es → HeightsFall n f.items → FitHeights es → FitHeights (solution_entries n f ss ++ es)
solutions-fit n f [] es k h e = e
solutions-fit n f (s ∷ ss) es k h e =
    unified-fit n (unifier s.equations) (with_next (f.next + s.variables) (before (goals_at n s.goals) (removing s.removes f))) (solution_entries n f ss) es k
    (fall-goals n n (omega arith) s.goals (removing s.removes f).items (fall-removal n s.removes f.items h)) (solutions-fit n f ss es k h e)

-- balls
recovery-fit : (o : Option Substitution) (ball r : Term) (f : Continuation ℕ) (es further : List Entry) → HeightsFall (length es) f.items → FitHeights es → FitHeights further → FitHeights (recovered o ball r f es further)
recovery-fit None ball r f es further h e g = g
recovery-fit (Some s) ball r f es further h e g = ((omega arith, fall-resolved s (length es) f.items h), e)

landing-fit : (ball : Term) (mark : Option ℕ) (es : List Entry) → FitHeights es → FitHeights (unwound ball mark es)
landing-fit ball mark [] h = (tt, tt)
landing-fit ball mark (CatchEntry c r f ∷ es) h = recovery-fit (taken_by mark (length es) ball c f) ball r f es _ h.0 h.1 (landing-fit ball (next_mark mark (length es) f) es h.1)
landing-fit ball mark (PlainEntry f ∷ es) h = landing-fit ball mark es h.1
landing-fit ball mark (FindallEntry results l f ∷ es) h = landing-fit ball mark es h.1
landing-fit ball mark (EndEntry b ∷ es) h = landing-fit ball mark es h.1

-- what takes the place of a goal that carries height h
reply-fit : (r : Reply) (f : Continuation ℕ) (es : List Entry) → HeightsFall (length es) f.items → FitHeights es → FitHeights (after_reply r f es)
reply-fit (Solutions ss) f es h e = solutions-fit (length es) f ss es (omega arith) h e
reply-fit (Ball b) f es h e = landing-fit b (first_mark f.items) es e
reply-fit (HaltNumber k) f es h e = tt

form-fit : (o : ControlForm) (h : ℕ) (f : Continuation ℕ) (es : List Entry) → h ≤ length es → HeightsFall h f.items → FitHeights es → FitHeights (after_control o h f es)
form-fit (GoesOnWith gs) h f es k i e = (fall-goals (length es) (length es) (omega arith) gs f.items (fall-more h (length es) k f.items i), e)
form-fit (EitherOf gs others) h f es k i e = (fall-goals h (suc (length es)) (omega arith) gs f.items i, (fall-goals h (length es) k others f.items i, e))
form-fit (TestOf gs thens others) h f es k i e = (test-fit gs thens h (length es) f.items k i, (fall-goals h (length es) k others f.items i, e))
  where
    test-fit : (gs thens : List Term) (h n : ℕ) (items : List (Item ℕ)) → h ≤ n → HeightsFall h items → HeightsFall (suc n) ((goals_at (suc n) gs ++ GoalItem (AtomTerm (codes "!")) n ∷ goals_at h thens) ++ items)
    test-fit [] thens h n items k i = (omega arith, fall-goals h n k thens items i)
    test-fit (g ∷ gs) thens h n items k i = (omega arith, test-fit gs thens h n items k i)
form-fit CutToScope h f es k i e =
    let lower : length (lowest h es) ≡ min h (length es) = (keeps_lower_part h es).height in
    (fall-more h (length (lowest h es)) (omega arith) f.items i, fit-drop (length es - h) es e)
form-fit (CatchOf g c r) h f es k i e = ((omega arith, (omega arith, fall-more h (length es) k f.items i)), (fall-more h (length es) k f.items i, e))
form-fit (FindallOf t g l) h f es k i e = ((omega arith, (omega arith, fall-more h (length es) k f.items i)), (fall-more h (length es) k f.items i, e))

goal-fit : (clauses : List Clause) (o : Outcome) (h : ℕ) (f : Continuation ℕ) (es : List Entry) (st : State) → h ≤ length es → HeightsFall h f.items → FitHeights es → FitHeights (goal_taken clauses o h f es st).entries
goal-fit clauses (Replies r) h f es st k i e = reply-fit r f es (fall-more h (length es) k f.items i) e
goal-fit clauses (Controls form) h f es st k i e = form-fit form h f es k i e
goal-fit clauses (AskWorld g) h f es st k i e = reply-fit ((world_step clauses g f.next st.world).1) f es (fall-more h (length es) k f.items i) e

removal-fit : (db : Option Database) (f : Continuation ℕ) (es : List Entry) (st : State) → HeightsFall (length es) f.items → FitHeights es → FitHeights (removal_taken db f es st).entries
removal-fit None f es st i e = e
removal-fit (Some db) f es st i e = (i, e)

opened-fit : (qs : List Query) → FitHeights (opened qs)
opened-fit [] = tt
opened-fit (q ∷ qs) = (go q.goals, (tt, tt))
  where
    go : (gs : List Term) → HeightsFall 1 (goals_at 1 gs)
    go [] = tt
    go (g ∷ gs) = (omega arith, go gs)

-- one inference
item-fit : (clauses : List Clause) (items : List (Item ℕ)) (f : Continuation ℕ) (es : List Entry) (st : State) → HeightsFall (length es) items → FitHeights es → FitHeights st.entries → FitHeights (item_taken clauses items f es st).entries
item-fit clauses [] f es st i e s = e
item-fit clauses (GoalItem g h ∷ items) f es st i e s = goal-fit clauses (outcome_of clauses g f.next) h (with_items items f) es st i.0 i.1 e
item-fit clauses (RemovalItem number ∷ items) f es st i e s = removal-fit (without_clause number st.world.database) (with_items items f) es st i e
item-fit clauses (CatchMark h ∷ items) f es st i e s = s
item-fit clauses (CollectMark t h ∷ items) f es st i e s = s

entry-fit : (clauses : List Clause) (es : List Entry) (st : State) → FitHeights es → FitHeights st.entries → FitHeights (entry_taken clauses es st).entries
entry-fit clauses [] st h s = s
entry-fit clauses (PlainEntry f ∷ es) st h s = item-fit clauses f.items f es st h.0 h.1 s
entry-fit clauses (EndEntry b ∷ es) st h s = opened-fit st.queries
entry-fit clauses (CatchEntry c r f ∷ es) st h s = s
entry-fit clauses (FindallEntry results l f ∷ es) st h s = s

-- the free steps
result-fit : (n : ℕ) (t : Term) (e : Entry) → FitsHeight n e → FitsHeight n (with_result t e)
result-fit n t (PlainEntry f) h = h
result-fit n t (CatchEntry c r f) h = h
result-fit n t (FindallEntry results l f) h = h
result-fit n t (EndEntry b) h = h

collected-fit : (h : ℕ) (t : Term) (es : List Entry) → FitHeights es → FitHeights (collected h t es)
collected-fit h t [] k = tt
collected-fit h t (e ∷ es) k = go (length es == h) (result-fit (length es) t e k.0) (collected-fit h t es k.1)
  where
    go : (b : Bool) → FitsHeight (length es) (with_result t e) → FitHeights (collected h t es) → FitHeights (cond b (with_result t e ∷ es) (e ∷ collected h t es))
    go true one rest = (one, k.1)
    go false one rest = (subst (λ n. FitsHeight n e) (sym (length-collected h t es)) k.0, rest)

plain-fit : (items : List (Item ℕ)) (f : Continuation ℕ) (es : List Entry) (go : List Entry → List Entry) → HeightsFall (length es) items → FitHeights es → ((ds : List Entry) → FitHeights ds → FitHeights (go ds)) → FitHeights (plain_free_step items f es go)
plain-fit [] f es go i e g = (i, e)
plain-fit (GoalItem t m ∷ items) f es go i e g = (i, e)
plain-fit (RemovalItem m ∷ items) f es go i e g = (i, e)
plain-fit (CatchMark m ∷ items) f es go i e g = (i, e)
plain-fit (CollectMark t m ∷ items) f es go i e g = g (collected m t es) (collected-fit m t es e)

free_steps_within-fit : (k : ℕ) (es : List Entry) → FitHeights es → FitHeights (free_steps_within k es)
free_steps_within-fit zero es h = h
free_steps_within-fit (suc k) [] h = tt
free_steps_within-fit (suc k) (CatchEntry c r f ∷ es) h = free_steps_within-fit k es h.1
free_steps_within-fit (suc k) (FindallEntry results l f ∷ es) h = ((omega arith, h.0), h.1)
free_steps_within-fit (suc k) (PlainEntry f ∷ es) h = plain-fit (without_marks f.items) f es (free_steps_within k) (fall-marks (length es) f.items h.0) h.1 (free_steps_within-fit k)
free_steps_within-fit (suc k) (EndEntry b ∷ es) h = h

step-fit : (clauses : List Clause) (st : State) → FitHeights st.entries → FitHeights (step clauses st).entries
unfolding step
step-fit clauses st h = entry-fit clauses st.entries st h h

pub run_held : (job : Job) (n : ℕ) → FitHeights (seq job n).entries
run_held job n =
    along (λ st. FitHeights st.entries) job (free_steps_within-fit _ (opened job.queries) (opened-fit job.queries))
    (λ st h. free_steps_within-fit _ (step job.clauses st).entries (step-fit job.clauses st h)) n
