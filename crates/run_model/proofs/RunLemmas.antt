-- The run, inference by inference.
use Rattle.std.proofs.Common.{Bool, cond, true, false, ◌≡◌, ◌≢◌, ◌⊎◌, inl, inr, ℕ, zero, suc, ◌+◌, ◌≤◌, List, [], ◌∷◌, ◌++◌, map, Option, Some, None, Result, Ok, Err, refl, sym, ap, ◌∙◌, subst, arith, append_assoc, append-nil}
use Rattle.std.specs.Prelude.{codes}
use Rattle.std.specs.Str.{encode_utf8_all}
use Rattle.au_term.specs.Term.{Term, Terms, term_at, arguments, argument_count}
use Rattle.run_model.specs.Goals.AtomGoals.{is_character}
use Rattle.run_model.specs.Goals.OutputGoals.{output_goals, bytes_out, character_out, no_character_ball}
use Rattle.run_model.specs.Goals.DatabaseGoals.{database_goals, head_in, body_in, assertion_error, with_clause_by, asserted, clause_match, each_clause, clauses_for, clause_error, clause_found, retraction_error, retracted, number_in, indicator_error, abolished}
use Rattle.run_model.specs.Goals.OperatorGoals.{operator_goals, operators_left, operator_error, operator_solution, current_operators}
use Rattle.run_model.specs.Goals.HaltGoals.{halt_goals, status_error, halted_by}
use Rattle.run_model.specs.Goals.WorldConstructs.{holds_once, unless_raised}
use Rattle.au_model.specs.Syntax.Operators.{OperatorTable}
use Rattle.au_model.specs.Syntax.OperatorChanges.{operators_changed}
use Rattle.au_model.specs.Terms.Forms.{name_of}
use Rattle.run_model.specs.declared.ending.RunEnding.TheVariants.{Budget}
use Rattle.run_model.specs.Programs.Clauses.{Clause}
use Rattle.run_model.specs.Programs.Databases.{Database, without_clause}
use Rattle.run_model.specs.Programs.DatabaseChanges.{with_first_clause, with_last_clause, without_procedure}
use Rattle.run_model.specs.Programs.Bodies.{body_of}
use Rattle.run_model.specs.Goals.Worlds.{World, WorldConstruct, Statics, static_among, world_constructs, is_world_construct, world_construct_of, by_world_construct, world_step}
use Rattle.run_model.specs.Goals.Outcomes.{Reply, Solutions, Ball, HaltNumber, Outcome, Replies, Controls, AskWorld}
use Rattle.run_model.specs.Machine.Heights.{after_control}
use Rattle.run_model.specs.Goals.GoalOutcomes.{outcome_of}
use Rattle.run_model.specs.Machine.Items.{Item, GoalItem, CatchMark, CollectMark, RemovalItem, Continuation, with_items}
use Rattle.run_model.specs.Machine.Entries.{Entry, PlainEntry, CatchEntry, FindallEntry, EndEntry}
use Rattle.run_model.specs.Machine.FreeSteps.{take_free_steps, HasNoFreeStep, HaveNoMarkFirst}
use Rattle.run_model.specs.Programs.Jobs.{Job}
use Rattle.run_model.specs.Machine.States.{State, with_entries, goal_taken, replied, removal_taken, item_taken, entry_taken, step, with_free_steps, opening}
use Rattle.run_model.specs.Machine.Runs.{seq, text_of, ending_by}
use Rattle.run_model.specs.Laws.RunLaws.{IsPrefixOf, IsStopped, EndedRunStays, TextGrows}
use Rattle.run_model.proofs.FreeStepLemmas.{no_step_left}
use Rattle.run_model.proofs.StepLemmas.{step_is, seq-zero, seq-suc}
use Rattle.au_model.specs.Terms.Each.{Each}
use Rattle.au_model.proofs.EachLemmas.{IfFound, found_row, each-append}

-- an ended run stays
ended_step : (clauses : List Clause) (st : State) → st.entries ≡ [] → with_free_steps (step clauses st) ≡ st
ended_step clauses st h =
    ap with_free_steps (step_is clauses st ∙ ap (λ es. entry_taken clauses es st) h) ∙ (ap (λ es. record st { entries = take_free_steps es }) h ∙ ap (λ es. record st { entries = es }) (sym h))

pub ended_run_stays : (job : Job) → EndedRunStays job
ended_run_stays job n zero h = let same : n + 0 ≡ n = omega arith in ap (seq job) same
ended_run_stays job n (suc k) h =
    let before : seq job (n + k) ≡ seq job n = ended_run_stays job n k h in
    let one : n + suc k ≡ suc (n + k) = omega arith in
    ap (seq job) one ∙ (seq-suc job (n + k) ∙ (ended_step job.clauses (seq job (n + k)) (ap (λ st. st.entries) before ∙ h) ∙ before))

-- the text only grows
pub front_same : (bytes : List ℕ) → IsPrefixOf bytes bytes
front_same bytes = record { rest = []; joined = sym (append-nil bytes) }

pub front_front : {a b c : List ℕ} → IsPrefixOf a b → IsPrefixOf b c → IsPrefixOf a c
front_front {a} h k = record { rest = h.rest ++ k.rest; joined = k.joined ∙ (ap (λ bytes. bytes ++ k.rest) h.joined ∙ append_assoc a h.rest k.rest) }

-- a goal that looks at the world or changes it writes after what is written
abbrev pub Writes : WorldConstruct → Type 0
Writes c = (statics : Statics) (ts : Terms) (next : ℕ) (w : World) → IsPrefixOf w.written ((c.effect statics ts next w).0).written

character_grows : (t : Term) (w : World) → IsPrefixOf w.written (character_out t w).0.written
character_grows t w = by (is_character t)
  where
    by : (b : Bool) → IsPrefixOf w.written (cond b (bytes_out (encode_utf8_all (name_of t)) w) (w, Ball (no_character_ball t))).0.written
    by true = record { rest = _; joined = refl }
    by false = front_same w.written

raised_grows : (name : List ℕ) (arity : ℕ) (w : World) (o : Option Term) (r : World × Reply) → IsPrefixOf w.written r.0.written → IsPrefixOf w.written (unless_raised name arity w o r).0.written
raised_grows name arity w (Some e) r h = front_same w.written
raised_grows name arity w None r h = h

left_grows : (w : World) (r : Result OperatorTable Term) → IsPrefixOf w.written (operators_left r w).0.written
left_grows w (Ok t) = front_same w.written
left_grows w (Err e) = front_same w.written

output_write : Each Writes output_goals
output_write = (
  λ statics ts next w. record { rest = _; joined = refl },
  (
    λ statics ts next w. record { rest = _; joined = refl },
    (λ statics ts next w. record { rest = _; joined = refl }, (λ statics ts next w. record { rest = _; joined = refl }, (λ statics ts next w. character_grows (term_at 0 ts) w, tt))),
  ),
)

asserted_grows : (add : Database → Clause → Database) (name : List ℕ) (statics : Statics) (t : Term) (w : World) → IsPrefixOf w.written (asserted add name statics t w).0.written
asserted_grows add name statics t w =
    raised_grows name 1 w (assertion_error statics (head_in t) (body_in t)) (record w { database = with_clause_by add (head_in t) (body_of (body_in t)) w.database }, holds_once) (front_same w.written)

retracted_grows : (statics : Statics) (t : Term) (next : ℕ) (w : World) → IsPrefixOf w.written (retracted statics t next w).0.written
retracted_grows statics t next w =
    raised_grows (codes "retract") 1 w (retraction_error statics (head_in t)) (w, each_clause (λ c. clause_match (Some c.number) (head_in t) (body_in t) next c.clause) (clauses_for (head_in t) w)) (front_same w.written)

abolished_grows : (statics : Statics) (t : Term) (w : World) → IsPrefixOf w.written (abolished statics t w).0.written
abolished_grows statics t w =
    let name = term_at 0 (arguments t) in
    let arity = term_at 1 (arguments t) in
    raised_grows (codes "abolish") 1 w (indicator_error statics t name arity) (record w { database = without_procedure w.database (name_of name) (number_in arity) }, holds_once) (front_same w.written)

found_clause_grows : (statics : Statics) (head body : Term) (next : ℕ) (w : World) → IsPrefixOf w.written (clause_found statics head body next w).0.written
found_clause_grows statics head body next w =
    raised_grows (codes "clause") 2 w (clause_error statics head body) (w, each_clause (λ c. clause_match None head body next c.clause) (clauses_for head w)) (front_same w.written)

current_grows : (p t n : Term) (w : World) → IsPrefixOf w.written (current_operators p t n w).0.written
current_grows p t n w = raised_grows (codes "current_op") 3 w (operator_error p t n) (w, Solutions (map (operator_solution p t n) w.operators)) (front_same w.written)

halted_grows : (t : Term) (w : World) → IsPrefixOf w.written (halted_by t w).0.written
halted_grows t w = raised_grows (codes "halt") 1 w (status_error t) (w, HaltNumber (number_in t)) (front_same w.written)

database_write : Each Writes database_goals
database_write = (
  λ statics ts next w. asserted_grows with_first_clause (codes "asserta") statics (term_at 0 ts) w,
  (
    λ statics ts next w. asserted_grows with_last_clause (codes "assertz") statics (term_at 0 ts) w,
    (
      λ statics ts next w. retracted_grows statics (term_at 0 ts) next w,
      (λ statics ts next w. abolished_grows statics (term_at 0 ts) w, (λ statics ts next w. found_clause_grows statics (term_at 0 ts) (term_at 1 ts) next w, tt)),
    ),
  ),
)

operator_write : Each Writes operator_goals
operator_write = (
  λ statics ts next w. left_grows w (operators_changed w.operators (term_at 0 ts) (term_at 1 ts) (term_at 2 ts)),
  (λ statics ts next w. current_grows (term_at 0 ts) (term_at 1 ts) (term_at 2 ts) w, tt),
)

halt_write : Each Writes halt_goals
halt_write = (λ statics ts next w. front_same w.written, (λ statics ts next w. halted_grows (term_at 0 ts) w, tt))

pub all_write : Each Writes world_constructs
all_write =
    each-append Writes output_goals (database_goals ++ (operator_goals ++ halt_goals)) output_write
    (each-append Writes database_goals (operator_goals ++ halt_goals) database_write (each-append Writes operator_goals halt_goals operator_write halt_write))

found_grows : (name : List ℕ) (arity : ℕ) (o : Option WorldConstruct) → IfFound (λ c. Writes c × (is_world_construct name arity c ≡ true)) o → (statics : Statics) (goal : Term) (next : ℕ) (w : World) → IsPrefixOf w.written ((by_world_construct o statics goal next w).0).written
found_grows name arity None h statics goal next w = front_same w.written
found_grows name arity (Some c) h statics goal next w = h.0 statics (arguments goal) next w

world_grows : (clauses : List Clause) (goal : Term) (next : ℕ) (w : World) → IsPrefixOf w.written ((world_step clauses goal next w).0).written
world_grows clauses goal next w =
    found_grows (name_of goal) (argument_count goal) (world_construct_of (name_of goal) (argument_count goal)) (found_row Writes (is_world_construct (name_of goal) (argument_count goal)) world_constructs all_write) (static_among clauses) goal next w

goal_grows : (clauses : List Clause) (o : Outcome) (h : ℕ) (f : Continuation ℕ) (es : List Entry) (st : State) → IsPrefixOf st.world.written (goal_taken clauses o h f es st).world.written
goal_grows clauses (Replies r) h f es st = front_same st.world.written
goal_grows clauses (Controls form) h f es st = front_same st.world.written
goal_grows clauses (AskWorld g) h f es st = world_grows clauses g f.next st.world

removal_grows : (db : Option Database) (f : Continuation ℕ) (es : List Entry) (st : State) → IsPrefixOf st.world.written (removal_taken db f es st).world.written
removal_grows None f es st = front_same st.world.written
removal_grows (Some db) f es st = front_same st.world.written

item_grows : (clauses : List Clause) (items : List (Item ℕ)) (f : Continuation ℕ) (es : List Entry) (st : State) → IsPrefixOf st.world.written (item_taken clauses items f es st).world.written
item_grows clauses [] f es st = record { rest = _; joined = refl }
item_grows clauses (GoalItem g h ∷ items) f es st = goal_grows clauses (outcome_of clauses g f.next) h (with_items items f) es st
item_grows clauses (RemovalItem number ∷ items) f es st = removal_grows (without_clause number st.world.database) (with_items items f) es st
item_grows clauses (CatchMark h ∷ items) f es st = front_same st.world.written
item_grows clauses (CollectMark t h ∷ items) f es st = front_same st.world.written

entry_grows : (clauses : List Clause) (es : List Entry) (st : State) → IsPrefixOf st.world.written (entry_taken clauses es st).world.written
entry_grows clauses [] st = front_same st.world.written
entry_grows clauses (PlainEntry f ∷ es) st = item_grows clauses f.items f es st
entry_grows clauses (EndEntry b ∷ es) st = record { rest = _; joined = refl }
entry_grows clauses (CatchEntry c r f ∷ es) st = front_same st.world.written
entry_grows clauses (FindallEntry results l f ∷ es) st = front_same st.world.written

pub step_grows : (clauses : List Clause) (st : State) → IsPrefixOf st.world.written (step clauses st).world.written
unfolding step
step_grows clauses st = entry_grows clauses st.entries st

pub text_grows : (job : Job) → TextGrows job
text_grows job n zero = let same : n ≡ n + 0 = omega arith in subst (λ m. IsPrefixOf (text_of job n) (text_of job m)) same (front_same (text_of job n))
text_grows job n (suc k) =
    let one : suc (n + k) ≡ n + suc k = omega arith in
    let later : IsPrefixOf (text_of job (n + k)) (text_of job (suc (n + k))) = subst (λ st. IsPrefixOf (text_of job (n + k)) st.world.written) (sym (seq-suc job (n + k))) (step_grows job.clauses (seq job (n + k))) in
    subst (λ m. IsPrefixOf (text_of job n) (text_of job m)) one (front_front (text_grows job n k) later)

-- one inference: it counts once, it answers at most once, and only what ends the run halts it
record Took (st new : State) : Type 0 where
  inferences : new.inferences ≡ st.inferences + 1
  answers : new.answers ≤ st.answers + 1
  halted : (k : ℕ) → new.halted ≡ Some k → (st.halted ≡ Some k) ⊎ (new.entries ≡ [])

went_on : (es : List Entry) (st : State) → Took st (with_entries es st)
went_on es st = record { inferences = refl; answers = omega arith; halted = λ k h. inl h }

reply_took : (r : Reply) (w : World) (f : Continuation ℕ) (es : List Entry) (st : State) → Took st (replied (w, r) f es st)
reply_took (Solutions ss) w f es st = record { inferences = refl; answers = omega arith; halted = λ k h. cc }
reply_took (Ball b) w f es st = record { inferences = refl; answers = omega arith; halted = λ k h. cc }
reply_took (HaltNumber n) w f es st = record { inferences = refl; answers = omega arith; halted = λ k h. inr refl }

goal_took : (clauses : List Clause) (o : Outcome) (h : ℕ) (f : Continuation ℕ) (es : List Entry) (st : State) → Took st (goal_taken clauses o h f es st)
goal_took clauses (Replies r) h f es st = reply_took r st.world f es st
goal_took clauses (Controls form) h f es st = went_on (after_control form h f es) st
goal_took clauses (AskWorld g) h f es st = let r = world_step clauses g f.next st.world in reply_took r.1 r.0 f es st

removal_took : (db : Option Database) (f : Continuation ℕ) (es : List Entry) (st : State) → Took st (removal_taken db f es st)
removal_took None f es st = went_on es st
removal_took (Some db) f es st = record { inferences = refl; answers = omega arith; halted = λ k h. inl h }

item_took : (clauses : List Clause) (items : List (Item ℕ)) (f : Continuation ℕ) (es : List Entry) (st : State) → HaveNoMarkFirst items → Took st (item_taken clauses items f es st)
item_took clauses [] f es st s = record { inferences = refl; answers = omega arith; halted = λ k h. inl h }
item_took clauses (GoalItem g h ∷ items) f es st s = goal_took clauses (outcome_of clauses g f.next) h (with_items items f) es st
item_took clauses (RemovalItem number ∷ items) f es st s = removal_took (without_clause number st.world.database) (with_items items f) es st
item_took clauses (CatchMark h ∷ items) f es st s = absurd s
item_took clauses (CollectMark t h ∷ items) f es st s = absurd s

entry_took : (clauses : List Clause) (e : Entry) (es : List Entry) (st : State) → HasNoFreeStep (e ∷ es) → Took st (entry_taken clauses (e ∷ es) st)
entry_took clauses (PlainEntry f) es st s = item_took clauses f.items f es st s
entry_took clauses (EndEntry b) es st s = record { inferences = refl; answers = omega arith; halted = λ k h. inl h }
entry_took clauses (CatchEntry c r f) es st s = absurd s
entry_took clauses (FindallEntry results l f) es st s = absurd s

-- what is so after n inferences
record Counted (n : ℕ) (st : State) : Type 0 where
  no_free_step : HasNoFreeStep st.entries
  inferences : st.entries ≢ [] → st.inferences ≡ n
  within : st.inferences ≤ n
  answers : st.answers ≤ st.inferences
  halted : (k : ℕ) → st.halted ≡ Some k → st.entries ≡ []

is_entry : (e : Entry) (es : List Entry) → e ∷ es ≢ []
is_entry e es h = cc

counted_more : (n : ℕ) (st new : State) (e : Entry) (es : List Entry) → st.entries ≡ e ∷ es → Counted n st → Took st new → Counted (suc n) (with_free_steps new)
counted_more n st new e es h c t =
    let going : st.entries ≢ [] = λ k. is_entry e es (sym h ∙ k) in
    let so_far : st.inferences ≡ n = c.inferences going in
    record {
      no_free_step = no_step_left new.entries;
      inferences = λ k. omega (arith, so_far, t.inferences);
      within = omega (arith, so_far, t.inferences);
      answers = omega (arith, t.inferences, t.answers, c.answers);
      halted = λ k halts. elim (t.halted k halts) [ inl earlier ↦ absurd (going (c.halted k earlier)) | inr over ↦ ap take_free_steps over ];
    }

counted_step : (clauses : List Clause) (n : ℕ) (st : State) (es : List Entry) → st.entries ≡ es → Counted n st → Counted (suc n) (with_free_steps (step clauses st))
counted_step clauses n st [] h c =
    subst (Counted (suc n)) (sym (ended_step clauses st h)) (record { no_free_step = c.no_free_step; inferences = λ k. absurd (k h); within = omega (arith, c.within); answers = c.answers; halted = c.halted })
counted_step clauses n st (e ∷ es) h c =
    let taken : step clauses st ≡ entry_taken clauses (e ∷ es) st = step_is clauses st ∙ ap (λ is. entry_taken clauses is st) h in
    subst (λ new. Counted (suc n) (with_free_steps new)) (sym taken) (counted_more n st (entry_taken clauses (e ∷ es) st) e es h c (entry_took clauses e es st (subst HasNoFreeStep h c.no_free_step)))

counted : (job : Job) (n : ℕ) → Counted n (seq job n)
counted job zero =
    let none : (k : ℕ) → None ≡ Some k → take_free_steps (opening job).entries ≡ [] = λ k h. cc in
    subst (Counted zero) (sym (seq-zero job)) (record { no_free_step = no_step_left (opening job).entries; inferences = λ h. refl; within = omega arith; answers = omega arith; halted = none })
counted job (suc n) = subst (Counted (suc n)) (sym (seq-suc job n)) (counted_step job.clauses n (seq job n) (seq job n).entries refl (counted job n))

-- no free step is left on top of a state of a run
pub runs_have_no_free_step : (job : Job) (n : ℕ) → HasNoFreeStep (seq job n).entries
runs_have_no_free_step job n = (counted job n).no_free_step

budget_stops : (es : List Entry) (o : Option ℕ) → es ≢ [] → ending_by es o ≡ Budget
budget_stops [] o h = absurd (h refl)
budget_stops (e ∷ es) o h = refl

ended_early : (es : List Entry) (o : Option ℕ) → es ≡ [] → ending_by es o ≢ Budget
ended_early [] None h k = cc
ended_early [] (Some n) h k = cc
ended_early (e ∷ es) o h k = cc

pub is_stopped : (job : Job) (n : ℕ) → IsStopped job n
is_stopped job n =
    let c = counted job n in
    let st = seq job n in
    record { stopped = budget_stops st.entries st.halted; ended = ended_early st.entries st.halted; counted = c.inferences; within = c.within; answered = c.answers; halted = c.halted }
