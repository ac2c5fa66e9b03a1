-- The variables of every entry of a run are below its next number.
use Rattle.std.proofs.Common.{ℕ, zero, suc, ◌+◌, ◌≤◌, max, Bool, true, false, cond, List, [], ◌∷◌, length, ◌==◌, Option, Some, None, arith}
use Rattle.std.specs.Prelude.{codes}
use Rattle.au_term.specs.Term.{Term, AtomTerm, var_bound}
use Rattle.au_model.specs.Terms.Each.{Each}
use Rattle.run_model.specs.Laws.Numbering.{IsTermBelow, AreTermsBelow, AreItemTermsBelow, IsNamedBelow, IsContinuationNumbered, IsEntryNumbered, AreEntriesNumbered}
use Rattle.au_model.specs.Terms.Substitutions.{Substitution, value_of}
use Rattle.au_model.specs.Terms.Unifier.{unifier}
use Rattle.au_model.specs.Terms.Copies.{copied, copy_takes}
use Rattle.au_model.specs.Terms.Forms.{binary, list_term}
use Rattle.run_model.specs.Programs.Bodies.{call_of}
use Rattle.run_model.specs.Programs.Clauses.{Clause}
use Rattle.run_model.specs.Programs.Databases.{Database, without_clause}
use Rattle.run_model.specs.Goals.Worlds.{world_step}
use Rattle.run_model.specs.Goals.Outcomes.{Solution, Reply, Solutions, Ball, HaltNumber, ControlForm, GoesOnWith, EitherOf, TestOf, CutToScope, CatchOf, FindallOf, Outcome, Replies, Controls, AskWorld}
use Rattle.run_model.specs.Goals.GoalOutcomes.{outcome_of}
use Rattle.run_model.specs.Machine.Items.{Item, GoalItem, CatchMark, CollectMark, RemovalItem, Continuation, resolve_item, resolve_named, resolve_continuation, goals_at, with_items, before, removing, with_next, without_marks, first_mark}
use Rattle.run_model.specs.Machine.Entries.{Entry, PlainEntry, CatchEntry, FindallEntry, EndEntry, unified, solution_entry, solution_entries, with_result, collected}
use Rattle.run_model.specs.Machine.FreeSteps.{findall_ends, plain_free_step, free_steps_within}
use Rattle.run_model.specs.Machine.Balls.{taken_by, next_mark, recovered, unwound, is_height}
use Rattle.run_model.specs.Machine.Heights.{guarded_goal, after_reply, after_control}
use Rattle.au_model.specs.Terms.Named.{NamedVariable}
use Rattle.run_model.specs.Programs.Jobs.{Query, Job, own_terms, goals_bound, names_bound, query_bound}
use Rattle.run_model.specs.Machine.States.{State, opened, goal_taken, removal_taken, item_taken, entry_taken, step}
use Rattle.run_model.specs.Machine.Runs.{seq}
use Rattle.au_model.proofs.EachLemmas.{each-append, each-map, each-more, each-drop}
use Rattle.au_model.proofs.VariableBoundLemmas.{apply-below, KeepsBelow, unifier_below, copied-below}
use Rattle.run_model.proofs.BuiltinRowBoundLemmas.{IsSolutionBelow, IsReplyBelow, IsFormBelow, IsOutcomeBelow}
use Rattle.run_model.proofs.OutcomeBoundLemmas.{outcome-below, world-below}
use Rattle.run_model.proofs.StepLemmas.{along}

-- items and named terms
item-more : (b c : ℕ) → b ≤ c → (i : Item ℕ) → AreItemTermsBelow b i → AreItemTermsBelow c i
item-more b c k (GoalItem t h) i = omega arith
item-more b c k (CatchMark h) i = tt
item-more b c k (CollectMark t h) i = omega arith
item-more b c k (RemovalItem number) i = tt

item-resolved : (s : Substitution) (b : ℕ) → KeepsBelow b (Some s) → (i : Item ℕ) → AreItemTermsBelow b i → AreItemTermsBelow b (resolve_item s i)
item-resolved s b k (GoalItem t h) i = apply-below (value_of s) b b k t i
item-resolved s b k (CatchMark h) i = tt
item-resolved s b k (CollectMark t h) i = apply-below (value_of s) b b k t i
item-resolved s b k (RemovalItem number) i = tt

items-goals : (b h : ℕ) (gs : List Term) → AreTermsBelow b gs → Each (AreItemTermsBelow b) (goals_at h gs)
items-goals b h gs k = each-map (IsTermBelow b) (AreItemTermsBelow b) (λ g. GoalItem g h) (λ g l. l) gs k

resolved-numbered : (s : Substitution) (f : Continuation ℕ) → KeepsBelow f.next (Some s) → IsContinuationNumbered f → IsContinuationNumbered (resolve_continuation s f)
resolved-numbered s f k h = record {
  items = each-map (AreItemTermsBelow f.next) (AreItemTermsBelow f.next) (resolve_item s) (item-resolved s f.next k) f.items h.items;
  named = each-map (IsNamedBelow f.next) (IsNamedBelow f.next) (resolve_named s) (λ v l. apply-below (value_of s) f.next f.next k v.term l) f.named h.named;
}

before-numbered : (items : List (Item ℕ)) (f : Continuation ℕ) → Each (AreItemTermsBelow f.next) items → IsContinuationNumbered f → IsContinuationNumbered (before items f)
before-numbered items f k h = record { items = each-append (AreItemTermsBelow f.next) items f.items k h.items; named = h.named }

next-numbered : (n : ℕ) (f : Continuation ℕ) → f.next ≤ n → IsContinuationNumbered f → IsContinuationNumbered (with_next n f)
next-numbered n f k h = record { items = each-more (AreItemTermsBelow f.next) (AreItemTermsBelow n) (item-more f.next n k) f.items h.items; named = each-more (IsNamedBelow f.next) (IsNamedBelow n) (λ v l. omega arith) f.named h.named }

goals-numbered : (h : ℕ) (gs : List Term) (f : Continuation ℕ) → AreTermsBelow f.next gs → IsContinuationNumbered f → IsContinuationNumbered (before (goals_at h gs) f)
goals-numbered h gs f k n = before-numbered (goals_at h gs) f (items-goals f.next h gs k) n

removing-numbered : (number : Option ℕ) (f : Continuation ℕ) → IsContinuationNumbered f → IsContinuationNumbered (removing number f)
removing-numbered None f n = before-numbered [] f tt n
removing-numbered (Some k) f n = before-numbered (RemovalItem k ∷ []) f (tt, tt) n

-- solutions
unified-numbered : (o : Option Substitution) (f : Continuation ℕ) → KeepsBelow f.next o → IsContinuationNumbered f → AreEntriesNumbered (unified o f)
unified-numbered None f k h = tt
unified-numbered (Some s) f k h = (resolved-numbered s f k h, tt)

solution-numbered : (h : ℕ) (f : Continuation ℕ) (s : Solution) → IsSolutionBelow f.next s → IsContinuationNumbered f → AreEntriesNumbered (solution_entry h f s)
solution-numbered h f s k n =
    let next = f.next + s.variables in
    let kept : Continuation ℕ = removing s.removes f in
    let wide : IsContinuationNumbered (with_next next kept) = next-numbered next kept (omega arith) (removing-numbered s.removes f n) in
    let whole : IsContinuationNumbered (before (goals_at h s.goals) (with_next next kept)) = goals-numbered h s.goals (with_next next kept) k.1 wide in
    unified-numbered (unifier s.equations) (with_next next (before (goals_at h s.goals) kept)) (unifier_below s.equations next k.0) whole

pub solutions-numbered : (h : ℕ) (f : Continuation ℕ) (ss : List Solution) → Each (IsSolutionBelow f.next) ss → IsContinuationNumbered f → AreEntriesNumbered (solution_entries h f ss)
solutions-numbered h f [] k n = tt
solutions-numbered h f (s ∷ ss) k n = each-append IsEntryNumbered (solution_entry h f s) (solution_entries h f ss) (solution-numbered h f s k.0 n) (solutions-numbered h f ss k.1 n)

-- balls
recovery-numbered : (o : Option Substitution) (ball r : Term) (f : Continuation ℕ) (es further : List Entry) → KeepsBelow (f.next + copy_takes ball) o → IsTermBelow f.next r → IsContinuationNumbered f → AreEntriesNumbered es → AreEntriesNumbered further → AreEntriesNumbered (recovered o ball r f es further)
recovery-numbered None ball r f es further k b h e g = g
recovery-numbered (Some s) ball r f es further k b h e g =
    let next = f.next + copy_takes ball in
    let wide : IsContinuationNumbered (with_next next f) = next-numbered next f (omega arith) h in
    let first : Each (AreItemTermsBelow next) (GoalItem (call_of r) (length es) ∷ []) = (omega arith, tt) in
    (resolved-numbered s (with_next next (before (GoalItem (call_of r) (length es) ∷ []) f)) k (before-numbered (GoalItem (call_of r) (length es) ∷ []) (with_next next f) first wide), e)

taken-below : (mark : Option ℕ) (n : ℕ) (ball c : Term) (f : Continuation ℕ) → IsTermBelow f.next c → KeepsBelow (f.next + copy_takes ball) (taken_by mark n ball c f)
taken-below mark n ball c f h = go (is_height mark n)
  where
    low : var_bound (copied ball f.next) ≤ f.next + copy_takes ball
    low = copied-below ball f.next

    go : (b : Bool) → KeepsBelow (f.next + copy_takes ball) (cond b (unifier ((c, copied ball f.next) ∷ [])) None)
    go true = unifier_below ((c, copied ball f.next) ∷ []) (f.next + copy_takes ball) (omega (arith, copied-below ball f.next))
    go false = tt

pub landing-numbered : (ball : Term) (mark : Option ℕ) (es : List Entry) → AreEntriesNumbered es → AreEntriesNumbered (unwound ball mark es)
landing-numbered ball mark [] h = (tt, tt)
landing-numbered ball mark (CatchEntry c r f ∷ es) h =
    recovery-numbered (taken_by mark (length es) ball c f) ball r f es _ (taken-below mark (length es) ball c f h.0.0) h.0.1 h.0.2 h.1 (landing-numbered ball (next_mark mark (length es) f) es h.1)
landing-numbered ball mark (PlainEntry f ∷ es) h = landing-numbered ball mark es h.1
landing-numbered ball mark (FindallEntry results l f ∷ es) h = landing-numbered ball mark es h.1
landing-numbered ball mark (EndEntry b ∷ es) h = landing-numbered ball mark es h.1

-- what takes the place of a goal
pub reply-numbered : (r : Reply) (f : Continuation ℕ) (es : List Entry) → IsReplyBelow f.next r → IsContinuationNumbered f → AreEntriesNumbered es → AreEntriesNumbered (after_reply r f es)
reply-numbered (Solutions ss) f es k n h = each-append IsEntryNumbered (solution_entries (length es) f ss) es (solutions-numbered (length es) f ss k n) h
reply-numbered (Ball b) f es k n h = landing-numbered b (first_mark f.items) es h
reply-numbered (HaltNumber m) f es k n h = tt

pub form-numbered : (o : ControlForm) (h : ℕ) (f : Continuation ℕ) (es : List Entry) → IsFormBelow f.next o → IsContinuationNumbered f → AreEntriesNumbered es → AreEntriesNumbered (after_control o h f es)
form-numbered (GoesOnWith gs) h f es k n e = (goals-numbered (length es) gs f k n, e)
form-numbered (EitherOf gs others) h f es k n e = (goals-numbered h gs f k.0 n, (goals-numbered h others f k.1 n, e))
form-numbered (TestOf gs thens others) h f es k n e =
    let last : Each (AreItemTermsBelow f.next) (GoalItem (AtomTerm (codes "!")) (length es) ∷ goals_at h thens) = (omega arith, items-goals f.next h thens k.1) in
    (before-numbered _ f (each-append (AreItemTermsBelow f.next) (goals_at (suc (length es)) gs) _ (items-goals f.next (suc (length es)) gs k.0) last) n, (goals-numbered h others f k.2 n, e))
form-numbered CutToScope h f es k n e = (n, each-drop IsEntryNumbered _ es e)
form-numbered (CatchOf g c r) h f es k n e =
    let items = guarded_goal (length es) g ∷ CatchMark (length es) ∷ [] in
    let guarded : Each (AreItemTermsBelow f.next) items = (omega (arith, k.0), (tt, tt)) in
    (before-numbered items f guarded n, ((k.1, k.2, n), e))
form-numbered (FindallOf t g l) h f es k n e =
    let items = guarded_goal (length es) g ∷ CollectMark t (length es) ∷ [] in
    let guarded : Each (AreItemTermsBelow f.next) items = (omega (arith, k.1), (k.0, tt)) in
    (before-numbered items f guarded n, ((tt, k.2, n), e))

goal-numbered : (clauses : List Clause) (o : Outcome) (h : ℕ) (f : Continuation ℕ) (es : List Entry) (st : State) → IsOutcomeBelow f.next o → IsContinuationNumbered f → AreEntriesNumbered es → AreEntriesNumbered (goal_taken clauses o h f es st).entries
goal-numbered clauses (Replies r) h f es st k n e = reply-numbered r f es k n e
goal-numbered clauses (Controls form) h f es st k n e = form-numbered form h f es k n e
goal-numbered clauses (AskWorld g) h f es st k n e = reply-numbered ((world_step clauses g f.next st.world).1) f es (world-below clauses g f.next st.world k) n e

removal-numbered : (db : Option Database) (f : Continuation ℕ) (es : List Entry) (st : State) → IsContinuationNumbered f → AreEntriesNumbered es → AreEntriesNumbered (removal_taken db f es st).entries
removal-numbered None f es st n e = e
removal-numbered (Some db) f es st n e = (n, e)

-- the next query
goals_bound-below : (gs : List Term) → AreTermsBelow (goals_bound gs) gs
goals_bound-below [] = tt
goals_bound-below (g ∷ gs) = (omega arith, each-more (IsTermBelow (goals_bound gs)) (IsTermBelow (max (var_bound g) (goals_bound gs))) (λ t l. omega arith) gs (goals_bound-below gs))

names_bound-below : (vs : List NamedVariable) → Each (IsNamedBelow (names_bound vs)) (own_terms vs)
names_bound-below [] = tt
names_bound-below (v ∷ vs) = (omega arith, each-more (IsNamedBelow (names_bound vs)) (IsNamedBelow (max (suc v.number) (names_bound vs))) (λ t l. omega arith) (own_terms vs) (names_bound-below vs))

pub query-numbered : (h : ℕ) (q : Query) → IsContinuationNumbered (record { items = goals_at h q.goals; named = own_terms q.names; next = query_bound q })
query-numbered h q =
    let goals = each-more (IsTermBelow (goals_bound q.goals)) (IsTermBelow (query_bound q)) (λ t l. omega arith) q.goals (goals_bound-below q.goals) in
    let named = each-more (IsNamedBelow (names_bound q.names)) (IsNamedBelow (query_bound q)) (λ v l. omega arith) (own_terms q.names) (names_bound-below q.names) in
    record { items = items-goals (query_bound q) h q.goals goals; named = named }

opened-numbered : (qs : List Query) → AreEntriesNumbered (opened qs)
opened-numbered [] = tt
opened-numbered (q ∷ qs) = (query-numbered 1 q, (tt, tt))

-- one inference
item-numbered : (clauses : List Clause) (items : List (Item ℕ)) (f : Continuation ℕ) (es : List Entry) (st : State) → Each (AreItemTermsBelow f.next) items → Each (IsNamedBelow f.next) f.named → AreEntriesNumbered es → AreEntriesNumbered st.entries → AreEntriesNumbered (item_taken clauses items f es st).entries
item-numbered clauses [] f es st k n e s = e
item-numbered clauses (GoalItem g h ∷ items) f es st k n e s = goal-numbered clauses (outcome_of clauses g f.next) h (with_items items f) es st (outcome-below clauses g f.next k.0) (record { items = k.1; named = n }) e
item-numbered clauses (RemovalItem number ∷ items) f es st k n e s = removal-numbered (without_clause number st.world.database) (with_items items f) es st (record { items = k.1; named = n }) e
item-numbered clauses (CatchMark h ∷ items) f es st k n e s = s
item-numbered clauses (CollectMark t h ∷ items) f es st k n e s = s

entry-numbered : (clauses : List Clause) (es : List Entry) (st : State) → AreEntriesNumbered es → AreEntriesNumbered st.entries → AreEntriesNumbered (entry_taken clauses es st).entries
entry-numbered clauses [] st h s = s
entry-numbered clauses (PlainEntry f ∷ es) st h s = item-numbered clauses f.items f es st h.0.items h.0.named h.1 s
entry-numbered clauses (EndEntry b ∷ es) st h s = opened-numbered st.queries
entry-numbered clauses (CatchEntry c r f ∷ es) st h s = s
entry-numbered clauses (FindallEntry results l f ∷ es) st h s = s

-- the free steps
list-below : (b : ℕ) (ts : List Term) → AreTermsBelow b ts → IsTermBelow b (list_term ts)
list-below b [] h = omega arith
list-below b (t ∷ ts) h = omega (arith, h.0, list-below b ts h.1)

pub findall-numbered : (results : List Term) (l : Term) (f : Continuation ℕ) (es : List Entry) → AreTermsBelow f.next results → IsTermBelow f.next l → IsContinuationNumbered f → IsEntryNumbered (findall_ends results l f es)
findall-numbered results l f es r k n =
    let goal = binary (codes "=") l (list_term results) in
    let first : Each (AreItemTermsBelow f.next) (GoalItem goal (length es) ∷ []) = (omega (arith, list-below f.next results r), tt) in
    before-numbered (GoalItem goal (length es) ∷ []) f first n

pub result-numbered : (t : Term) (e : Entry) → IsEntryNumbered e → IsEntryNumbered (with_result t e)
result-numbered t (PlainEntry f) h = h
result-numbered t (CatchEntry c r f) h = h
result-numbered t (EndEntry b) h = h
result-numbered t (FindallEntry results l f) h =
    let next = f.next + copy_takes t in
    let list = h.1 in
    (each-append (IsTermBelow next) results (copied t f.next ∷ []) (each-more (IsTermBelow f.next) (IsTermBelow next) (λ u k. omega arith) results h.0) (copied-below t f.next, tt), omega arith, next-numbered next f (omega arith) h.2)

pub collected-numbered : (h : ℕ) (t : Term) (es : List Entry) → AreEntriesNumbered es → AreEntriesNumbered (collected h t es)
collected-numbered h t [] k = tt
collected-numbered h t (e ∷ es) k = go (length es == h) (result-numbered t e k.0) (collected-numbered h t es k.1)
  where
    go : (b : Bool) → IsEntryNumbered (with_result t e) → AreEntriesNumbered (collected h t es) → AreEntriesNumbered (cond b (with_result t e ∷ es) (e ∷ collected h t es))
    go true one rest = (one, k.1)
    go false one rest = (k.0, rest)

pub marks-numbered : (b : ℕ) (items : List (Item ℕ)) → Each (AreItemTermsBelow b) items → Each (AreItemTermsBelow b) (without_marks items)
marks-numbered b [] h = tt
marks-numbered b (CatchMark m ∷ items) h = marks-numbered b items h.1
marks-numbered b (GoalItem t m ∷ items) h = h
marks-numbered b (CollectMark t m ∷ items) h = h
marks-numbered b (RemovalItem m ∷ items) h = h

plain-numbered : (items : List (Item ℕ)) (f : Continuation ℕ) (es : List Entry) (go : List Entry → List Entry) → Each (AreItemTermsBelow f.next) items → Each (IsNamedBelow f.next) f.named → AreEntriesNumbered es → ((ds : List Entry) → AreEntriesNumbered ds → AreEntriesNumbered (go ds)) → AreEntriesNumbered (plain_free_step items f es go)
plain-numbered [] f es go i n e g = (record { items = i; named = n }, e)
plain-numbered (GoalItem t m ∷ items) f es go i n e g = (record { items = i; named = n }, e)
plain-numbered (RemovalItem m ∷ items) f es go i n e g = (record { items = i; named = n }, e)
plain-numbered (CatchMark m ∷ items) f es go i n e g = (record { items = i; named = n }, e)
plain-numbered (CollectMark t m ∷ items) f es go i n e g = g (collected m t es) (collected-numbered m t es e)

pub free_steps_within-numbered : (k : ℕ) (es : List Entry) → AreEntriesNumbered es → AreEntriesNumbered (free_steps_within k es)
free_steps_within-numbered zero es h = h
free_steps_within-numbered (suc k) [] h = tt
free_steps_within-numbered (suc k) (CatchEntry c r f ∷ es) h = free_steps_within-numbered k es h.1
free_steps_within-numbered (suc k) (FindallEntry results l f ∷ es) h = (findall-numbered results l f es h.0.0 h.0.1 h.0.2, h.1)
free_steps_within-numbered (suc k) (PlainEntry f ∷ es) h = plain-numbered (without_marks f.items) f es (free_steps_within k) (marks-numbered f.next f.items h.0.items) h.0.named h.1 (free_steps_within-numbered k)
free_steps_within-numbered (suc k) (EndEntry b ∷ es) h = h

pub step-numbered : (clauses : List Clause) (st : State) → AreEntriesNumbered st.entries → AreEntriesNumbered (step clauses st).entries
unfolding step
step-numbered clauses st h = entry-numbered clauses st.entries st h h

pub run_numbered : (job : Job) (n : ℕ) → AreEntriesNumbered (seq job n).entries
run_numbered job n =
    along (λ st. AreEntriesNumbered st.entries) job (free_steps_within-numbered _ (opened job.queries) (opened-numbered job.queries))
    (λ st h. free_steps_within-numbered _ (step job.clauses st).entries (step-numbered job.clauses st h)) n
