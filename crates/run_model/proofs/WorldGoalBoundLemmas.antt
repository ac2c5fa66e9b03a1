-- What a goal of the world comes to has no variable past its own and the new ones.
use Rattle.std.proofs.Common.{◌≡◌, ℕ, ◌+◌, ◌≤◌, Bool, true, false, cond, List, [], ◌∷◌, ◌++◌, map, length, Option, Some, None, Result, Ok, Err, arith}
use Rattle.std.specs.Prelude.{codes}
use Rattle.std.specs.Str.{encode_utf8_all}
use Rattle.au_term.specs.Term.{Term, VarTerm, IntTerm, AtomTerm, Compound, Terms, end, more, all_bound, count, term_at, arguments}
use Rattle.au_model.specs.Terms.Each.{Each}
use Rattle.au_model.specs.Terms.Forms.{same_name, binary, name_of}
use Rattle.au_model.specs.Terms.Copies.{seen_in}
use Rattle.au_model.specs.Syntax.Operators.{OperatorTable}
use Rattle.au_model.specs.Syntax.OperatorChanges.{operators_changed}
use Rattle.run_model.specs.Laws.Numbering.{IsTermBelow}
use Rattle.run_model.specs.Programs.Clauses.{Clause, clause_variables, renamed_head, renamed_body}
use Rattle.run_model.specs.Programs.Databases.{NumberedClause, Database}
use Rattle.run_model.specs.Programs.DatabaseChanges.{with_first_clause, with_last_clause, without_procedure}
use Rattle.run_model.specs.Programs.Bodies.{body_of}
use Rattle.run_model.specs.Goals.AtomGoals.{is_character}
use Rattle.run_model.specs.Goals.Outcomes.{Reply, Solutions, Ball, HaltNumber}
use Rattle.run_model.specs.Goals.OutputGoals.{output_goals, bytes_out, character_out, no_character_ball}
use Rattle.run_model.specs.Goals.DatabaseGoals.{database_goals, head_in, body_in, assertion_error, with_clause_by, asserted, clause_match, each_clause, clauses_for, clause_error, clause_found, retraction_error, retracted, number_in, indicator_error, abolished}
use Rattle.run_model.specs.Goals.OperatorGoals.{operator_goals, operators_left, operator_error, operator_solution, current_operators}
use Rattle.run_model.specs.Goals.HaltGoals.{halt_goals, status_error, halted_by}
use Rattle.run_model.specs.Goals.WorldConstructs.{World, WorldConstruct, Statics, holds_once, unless_raised}
use Rattle.run_model.specs.Goals.Worlds.{world_constructs}
use Rattle.au_model.proofs.EachLemmas.{each-append}
use Rattle.au_model.proofs.VariableBoundLemmas.{all_seen, still_seen, renamed-below}
use Rattle.run_model.proofs.BuiltinRowBoundLemmas.{IsSolutionBelow, IsReplyBelow, term-below}

abbrev pub IsWorldRowBelow : WorldConstruct → Type 0
IsWorldRowBelow c = (statics : Statics) (ts : Terms) (next : ℕ) (w : World) → count ts ≡ c.arity → all_bound ts ≤ next → IsReplyBelow next ((c.effect statics ts next w).1)

once-below : (next : ℕ) → IsReplyBelow next holds_once
once-below next = ((omega arith, tt), tt)

raised-below : (name : List ℕ) (arity next : ℕ) (w : World) (o : Option Term) (r : World × Reply) → IsReplyBelow next r.1 → IsReplyBelow next (unless_raised name arity w o r).1
raised-below name arity next w (Some e) r h = tt
raised-below name arity next w None r h = h

-- goals that write
character_out-below : (next : ℕ) (t : Term) (w : World) → IsReplyBelow next (character_out t w).1
character_out-below next t w = by (is_character t)
  where
    by : (b : Bool) → IsReplyBelow next (cond b (bytes_out (encode_utf8_all (name_of t)) w) (w, Ball (no_character_ball t))).1
    by true = once-below next
    by false = tt

output_below : Each IsWorldRowBelow output_goals
output_below = (
  λ statics ts next w n h. once-below next,
  (
    λ statics ts next w n h. once-below next,
    (λ statics ts next w n h. once-below next, (λ statics ts next w n h. once-below next, (λ statics ts next w n h. character_out-below next (term_at 0 ts) w, tt))),
  ),
)

-- goals on dynamic procedures
either-below : (b : ℕ) (c : Bool) (t u : Term) → IsTermBelow b t → IsTermBelow b u → IsTermBelow b (cond c t u)
either-below b true t u h k = h
either-below b false t u h k = k

head-below : (b : ℕ) (t : Term) → IsTermBelow b t → IsTermBelow b (head_in t)
head-below b (VarTerm n) h = h
head-below b (IntTerm z) h = h
head-below b (AtomTerm a) h = h
head-below b (Compound f end) h = h
head-below b (Compound f (more t end)) h = h
head-below b (Compound f (more t (more u end))) h = either-below b (same_name f (codes ":-")) t (binary f t u) (omega arith) h
head-below b (Compound f (more t (more u (more v ts)))) h = h

body-below : (b : ℕ) (t : Term) → IsTermBelow b t → IsTermBelow b (body_in t)
body-below b (VarTerm n) h = omega arith
body-below b (IntTerm z) h = omega arith
body-below b (AtomTerm a) h = omega arith
body-below b (Compound f end) h = omega arith
body-below b (Compound f (more t end)) h = omega arith
body-below b (Compound f (more t (more u end))) h = either-below b (same_name f (codes ":-")) u (AtomTerm (codes "true")) (omega arith) (omega arith)
body-below b (Compound f (more t (more u (more v ts)))) h = omega arith

match-below : (removes : Option ℕ) (head body : Term) (next : ℕ) → IsTermBelow next head → IsTermBelow next body → (c : Clause) → IsSolutionBelow next (clause_match removes head body next c)
match-below removes head body next h k c =
    let seen = clause_variables c in
    let top : IsTermBelow (next + length seen) (renamed_head c next) = renamed-below seen next c.head (still_seen c.body c.head (seen_in c.head []) (all_seen c.head [])) in
    let under : IsTermBelow (next + length seen) (renamed_body c next) = renamed-below seen next c.body (all_seen c.body (seen_in c.head [])) in
    (omega arith, tt)

matches-below : (removes : NumberedClause → Option ℕ) (head body : Term) (next : ℕ) → IsTermBelow next head → IsTermBelow next body → (o : Option (List NumberedClause))
    → IsReplyBelow next (each_clause (λ c. clause_match (removes c) head body next c.clause) o)
matches-below removes head body next h k None = tt
matches-below removes head body next h k (Some cs) = go cs
  where
    go : (cs : List NumberedClause) → Each (IsSolutionBelow next) (map (λ c. clause_match (removes c) head body next c.clause) cs)
    go [] = tt
    go (c ∷ cs) = (match-below (removes c) head body next h k c.clause, go cs)

asserted-below : (add : Database → Clause → Database) (name : List ℕ) (statics : Statics) (t : Term) (next : ℕ) (w : World) → IsReplyBelow next (asserted add name statics t w).1
asserted-below add name statics t next w =
    raised-below name 1 next w (assertion_error statics (head_in t) (body_in t)) (record w { database = with_clause_by add (head_in t) (body_of (body_in t)) w.database }, holds_once) (once-below next)

retracted-below : (statics : Statics) (t : Term) (next : ℕ) (w : World) → IsTermBelow next t → IsReplyBelow next (retracted statics t next w).1
retracted-below statics t next w h =
    raised-below (codes "retract") 1 next w (retraction_error statics (head_in t)) (w, each_clause (λ c. clause_match (Some c.number) (head_in t) (body_in t) next c.clause) (clauses_for (head_in t) w))
    (matches-below (λ c. Some c.number) (head_in t) (body_in t) next (head-below next t h) (body-below next t h) (clauses_for (head_in t) w))

abolished-below : (statics : Statics) (t : Term) (next : ℕ) (w : World) → IsReplyBelow next (abolished statics t w).1
abolished-below statics t next w =
    let name = term_at 0 (arguments t) in
    let arity = term_at 1 (arguments t) in
    raised-below (codes "abolish") 1 next w (indicator_error statics t name arity) (record w { database = without_procedure w.database (name_of name) (number_in arity) }, holds_once) (once-below next)

found-below : (statics : Statics) (head body : Term) (next : ℕ) (w : World) → IsTermBelow next head → IsTermBelow next body → IsReplyBelow next (clause_found statics head body next w).1
found-below statics head body next w h k =
    raised-below (codes "clause") 2 next w (clause_error statics head body) (w, each_clause (λ c. clause_match None head body next c.clause) (clauses_for head w)) (matches-below (λ c. None) head body next h k (clauses_for head w))

database_below : Each IsWorldRowBelow database_goals
database_below = (
  λ statics ts next w n h. asserted-below with_first_clause (codes "asserta") statics (term_at 0 ts) next w,
  (
    λ statics ts next w n h. asserted-below with_last_clause (codes "assertz") statics (term_at 0 ts) next w,
    (
      λ statics ts next w n h. retracted-below statics (term_at 0 ts) next w (term-below 0 next ts (omega arith) h),
      (
        λ statics ts next w n h. abolished-below statics (term_at 0 ts) next w,
        (λ statics ts next w n h. found-below statics (term_at 0 ts) (term_at 1 ts) next w (term-below 0 next ts (omega arith) h) (term-below 1 next ts (omega arith) h), tt),
      ),
    ),
  ),
)

-- goals on operators
left-below : (next : ℕ) (w : World) (r : Result OperatorTable Term) → IsReplyBelow next (operators_left r w).1
left-below next w (Ok t) = once-below next
left-below next w (Err e) = tt

rows-below : (p t n : Term) (next : ℕ) → IsTermBelow next p → IsTermBelow next t → IsTermBelow next n → (rows : OperatorTable) → Each (IsSolutionBelow next) (map (operator_solution p t n) rows)
rows-below p t n next h k l [] = tt
rows-below p t n next h k l (r ∷ rs) = ((omega arith, tt), rows-below p t n next h k l rs)

current-below : (p t n : Term) (next : ℕ) (w : World) → IsTermBelow next p → IsTermBelow next t → IsTermBelow next n → IsReplyBelow next (current_operators p t n w).1
current-below p t n next w h k l = raised-below (codes "current_op") 3 next w (operator_error p t n) (w, Solutions (map (operator_solution p t n) w.operators)) (rows-below p t n next h k l w.operators)

operators_below : Each IsWorldRowBelow operator_goals
operators_below = (
  λ statics ts next w n h. left-below next w (operators_changed w.operators (term_at 0 ts) (term_at 1 ts) (term_at 2 ts)),
  (
    λ statics ts next w n h.
        current-below (term_at 0 ts) (term_at 1 ts) (term_at 2 ts) next w (term-below 0 next ts (omega arith) h) (term-below 1 next ts (omega arith) h) (term-below 2 next ts (omega arith) h),
    tt,
  ),
)

-- goals that end the run
halted-below : (t : Term) (next : ℕ) (w : World) → IsReplyBelow next (halted_by t w).1
halted-below t next w = raised-below (codes "halt") 1 next w (status_error t) (w, HaltNumber (number_in t)) tt

halts_below : Each IsWorldRowBelow halt_goals
halts_below = (λ statics ts next w n h. tt, (λ statics ts next w n h. halted-below (term_at 0 ts) next w, tt))

pub world_rows_below : Each IsWorldRowBelow world_constructs
world_rows_below =
    each-append IsWorldRowBelow output_goals (database_goals ++ (operator_goals ++ halt_goals)) output_below
    (each-append IsWorldRowBelow database_goals (operator_goals ++ halt_goals) database_below (each-append IsWorldRowBelow operator_goals halt_goals operators_below halts_below))
