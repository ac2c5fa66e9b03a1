-- What goals of the world do does not depend on what is put out already.
use Rattle.std.proofs.Common.{◌≡◌, ℕ, Bool, true, false, cond, List, [], ◌∷◌, map, Option, Some, None, Result, Ok, Err, refl, ap, append_assoc}
use Rattle.std.specs.Prelude.{codes}
use Rattle.std.specs.Str.{encode_utf8_all}
use Rattle.au_term.specs.Term.{Term, Terms, term_at, arguments, argument_count}
use Rattle.au_model.specs.Syntax.Operators.{OperatorTable}
use Rattle.au_model.specs.Syntax.OperatorChanges.{operators_changed}
use Rattle.au_model.specs.Terms.Each.{Each}
use Rattle.au_model.specs.Terms.Forms.{name_of}
use Rattle.au_model.specs.Writing.WrittenTerms.{written_term}
use Rattle.au_model.specs.declared.types.Style.TheVariants.{Plain, Quoted, Canonical}
use Rattle.au_model.proofs.EachLemmas.{IfFound, found_row}
use Rattle.run_model.specs.Programs.Bodies.{body_of}
use Rattle.run_model.specs.Programs.DatabaseChanges.{with_first_clause, with_last_clause, without_procedure}
use Rattle.run_model.specs.Goals.AtomGoals.{is_character}
use Rattle.run_model.specs.Goals.Outcomes.{Reply, Solutions, Ball, HaltNumber}
use Rattle.run_model.specs.Goals.OutputGoals.{bytes_out, character_out, no_character_ball}
use Rattle.run_model.specs.Goals.DatabaseGoals.{head_in, body_in, assertion_error, with_clause_by, clause_match, each_clause, clauses_for, clause_error, retraction_error, number_in, indicator_error, abolished}
use Rattle.run_model.specs.Goals.OperatorGoals.{operators_left, operator_error, operator_solution}
use Rattle.run_model.specs.Goals.HaltGoals.{status_error}
use Rattle.run_model.specs.Goals.WorldConstructs.{holds_once, unless_raised}
use Rattle.run_model.specs.Goals.Worlds.{World, WorldConstruct, Statics, world_constructs, is_world_construct, world_construct_of, by_world_construct, effect_on}
use Rattle.stack_run.specs.MachineView.{with_front}

bytes_front : (front bytes : List ℕ) (w : World) → bytes_out bytes (with_front front w) ≡ (with_front front (bytes_out bytes w).0, holds_once)
bytes_front front bytes w = ap (λ bs. (record w { written = bs }, holds_once)) (append_assoc front w.written bytes)

character_front : (front : List ℕ) (t : Term) (w : World) → character_out t (with_front front w) ≡ (with_front front (character_out t w).0, (character_out t w).1)
character_front front t w = by (is_character t)
  where
    by : (b : Bool) → cond b (bytes_out (encode_utf8_all (name_of t)) (with_front front w)) (with_front front w, Ball (no_character_ball t))
        ≡ (with_front front (cond b (bytes_out (encode_utf8_all (name_of t)) w) (w, Ball (no_character_ball t))).0, (cond b (bytes_out (encode_utf8_all (name_of t)) w) (w, Ball (no_character_ball t))).1)
    by true = bytes_front front (encode_utf8_all (name_of t)) w
    by false = refl

raised_front : (name : List ℕ) (arity : ℕ) (front : List ℕ) (w : World) (o : Option Term) (r : World × Reply)
    → unless_raised name arity (with_front front w) o (with_front front r.0, r.1) ≡ (with_front front (unless_raised name arity w o r).0, (unless_raised name arity w o r).1)
raised_front name arity front w (Some e) r = refl
raised_front name arity front w None r = refl

abolish_front : (front : List ℕ) (statics : Statics) (t : Term) (w : World) → abolished statics t (with_front front w) ≡ (with_front front (abolished statics t w).0, (abolished statics t w).1)
abolish_front front statics t w =
    let name = term_at 0 (arguments t) in
    let arity = term_at 1 (arguments t) in
    raised_front (codes "abolish") 1 front w (indicator_error statics t name arity) (record w { database = without_procedure w.database (name_of name) (number_in arity) }, holds_once)

left_front : (front : List ℕ) (w : World) (r : Result OperatorTable Term) → operators_left r (with_front front w) ≡ (with_front front (operators_left r w).0, (operators_left r w).1)
left_front front w (Ok t) = refl
left_front front w (Err e) = refl

abbrev IsFrontRow : WorldConstruct → Type 0
IsFrontRow c = (statics : Statics) (ts : Terms) (next : ℕ) (front : List ℕ) (w : World) → c.effect statics ts next (with_front front w) ≡ (with_front front (c.effect statics ts next w).0, (c.effect statics ts next w).1)

rows_front : Each IsFrontRow world_constructs
rows_front = (λ statics ts next front w. bytes_front front (written_term Plain w.operators (term_at 0 ts)) w, (λ statics ts next front w. bytes_front front (written_term Quoted w.operators (term_at 0 ts)) w, (λ statics ts next front w. bytes_front front (written_term Canonical w.operators (term_at 0 ts)) w, (λ statics ts next front w. bytes_front front (10 ∷ []) w, (λ statics ts next front w. character_front front (term_at 0 ts) w, (λ statics ts next front w. raised_front (codes "asserta") 1 front w (assertion_error statics (head_in (term_at 0 ts)) (body_in (term_at 0 ts))) (record w { database = with_clause_by with_first_clause (head_in (term_at 0 ts)) (body_of (body_in (term_at 0 ts))) w.database }, holds_once), (λ statics ts next front w. raised_front (codes "assertz") 1 front w (assertion_error statics (head_in (term_at 0 ts)) (body_in (term_at 0 ts))) (record w { database = with_clause_by with_last_clause (head_in (term_at 0 ts)) (body_of (body_in (term_at 0 ts))) w.database }, holds_once), (λ statics ts next front w. raised_front (codes "retract") 1 front w (retraction_error statics (head_in (term_at 0 ts))) (w, each_clause (λ c. clause_match (Some c.number) (head_in (term_at 0 ts)) (body_in (term_at 0 ts)) next c.clause) (clauses_for (head_in (term_at 0 ts)) w)), (λ statics ts next front w. abolish_front front statics (term_at 0 ts) w, (λ statics ts next front w. raised_front (codes "clause") 2 front w (clause_error statics (term_at 0 ts) (term_at 1 ts)) (w, each_clause (λ c. clause_match None (term_at 0 ts) (term_at 1 ts) next c.clause) (clauses_for (term_at 0 ts) w)), (λ statics ts next front w. left_front front w (operators_changed w.operators (term_at 0 ts) (term_at 1 ts) (term_at 2 ts)), (λ statics ts next front w. raised_front (codes "current_op") 3 front w (operator_error (term_at 0 ts) (term_at 1 ts) (term_at 2 ts)) (w, Solutions (map (operator_solution (term_at 0 ts) (term_at 1 ts) (term_at 2 ts)) w.operators)), (λ statics ts next front w. refl, (λ statics ts next front w. raised_front (codes "halt") 1 front w (status_error (term_at 0 ts)) (w, HaltNumber (number_in (term_at 0 ts))), tt))))))))))))))

found_front : (o : Option WorldConstruct) (statics : Statics) (goal : Term) (next : ℕ) (front : List ℕ) (w : World) → IfFound (λ c. IsFrontRow c × (is_world_construct (name_of goal) (argument_count goal) c ≡ true)) o
    → by_world_construct o statics goal next (with_front front w) ≡ (with_front front (by_world_construct o statics goal next w).0, (by_world_construct o statics goal next w).1)
found_front None statics goal next front w h = refl
found_front (Some c) statics goal next front w h = h.0 statics (arguments goal) next front w

pub effect_front : (statics : Statics) (goal : Term) (next : ℕ) (front : List ℕ) (w : World) → effect_on statics goal next (with_front front w) ≡ (with_front front (effect_on statics goal next w).0, (effect_on statics goal next w).1)
effect_front statics goal next front w =
    let name = name_of goal in
    let arity = argument_count goal in
    found_front (world_construct_of name arity) statics goal next front w (found_row IsFrontRow (is_world_construct name arity) world_constructs rows_front)
