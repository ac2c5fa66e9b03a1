-- A goal that asks the world asks by itself: no control construct or built-in predicate asks.
use Rattle.std.proofs.Common.{◌≡◌, ℕ, Bool, true, false, cond, List, Option, Some, None, refl}
use Rattle.std.specs.Prelude.{nat_lt}
use Rattle.au_term.specs.Term.{Term, VarTerm, IntTerm, AtomTerm, Compound, Terms, argument_count, term_at, drop_terms}
use Rattle.au_model.specs.Terms.Each.{Each}
use Rattle.au_model.specs.Terms.ErrorTerms.{representation_error}
use Rattle.au_model.specs.Terms.Forms.{is_callable, name_of}
use Rattle.au_model.proofs.EachLemmas.{IfFound, found_row}
use Rattle.run_model.specs.Programs.Bodies.{called_goals}
use Rattle.run_model.specs.Programs.Clauses.{Clause, is_defined}
use Rattle.run_model.specs.Goals.Outcomes.{AskWorld}
use Rattle.run_model.specs.Goals.Control.{Construct, is_named, construct_of, control_constructs, with_arguments, raises, called, call_outcome, throw_outcome}
use Rattle.run_model.specs.Goals.Builtins.{builtins}
use Rattle.run_model.specs.Goals.Worlds.{is_world_goal}
use Rattle.run_model.specs.Goals.GoalOutcomes.{by_procedure, by_world_goal, by_builtin, by_construct, named_outcome, outcome_of}
use Rattle.std.specs.Prelude.{codes}

abbrev NeverAsks : Construct → Type 0
NeverAsks c = (ts : Terms) (next : ℕ) (goal : Term) → c.outcome ts next ≡ AskWorld goal → ⊥

called_never : (arity : ℕ) (g goal : Term) (b : Bool) (o : Option (List Term)) → cond b (raises (representation_error (codes "max_arity")) (codes "call") arity) (called arity g o) ≡ AskWorld goal → ⊥
called_never arity g goal true o e = cc
called_never arity g goal false (Some gs) e = cc
called_never arity g goal false None e = cc

pub call_never : (arity : ℕ) (t : Term) (us : Terms) (goal : Term) → call_outcome arity t us ≡ AskWorld goal → ⊥
call_never arity (VarTerm n) us goal e = cc
call_never arity (IntTerm z) us goal e = cc
call_never arity (AtomTerm a) us goal e =
    let g = with_arguments (AtomTerm a) us in
    called_never arity g goal (nat_lt 65535 (argument_count g)) (called_goals g) e
call_never arity (Compound f ts) us goal e =
    let g = with_arguments (Compound f ts) us in
    called_never arity g goal (nat_lt 65535 (argument_count g)) (called_goals g) e

throw_never : (t goal : Term) → throw_outcome t ≡ AskWorld goal → ⊥
throw_never (VarTerm n) goal e = cc
throw_never (IntTerm z) goal e = cc
throw_never (AtomTerm a) goal e = cc
throw_never (Compound f ts) goal e = cc

control_never : Each NeverAsks control_constructs
control_never = (λ ts next goal e. cc, (λ ts next goal e. cc, (λ ts next goal e. cc, (λ ts next goal e. cc, (λ ts next goal e. cc, (λ ts next goal e. cc, (λ ts next goal e. cc, (λ ts next goal e. cc, (λ ts next goal e. throw_never (term_at 0 ts) goal e, (λ ts next goal e. cc, (λ ts next goal e. cc, (λ ts next goal e. call_never 1 (term_at 0 ts) (drop_terms 1 ts) goal e, (λ ts next goal e. call_never 2 (term_at 0 ts) (drop_terms 1 ts) goal e, (λ ts next goal e. call_never 3 (term_at 0 ts) (drop_terms 1 ts) goal e, (λ ts next goal e. call_never 4 (term_at 0 ts) (drop_terms 1 ts) goal e, (λ ts next goal e. call_never 5 (term_at 0 ts) (drop_terms 1 ts) goal e, (λ ts next goal e. call_never 6 (term_at 0 ts) (drop_terms 1 ts) goal e, (λ ts next goal e. call_never 7 (term_at 0 ts) (drop_terms 1 ts) goal e, (λ ts next goal e. call_never 8 (term_at 0 ts) (drop_terms 1 ts) goal e, tt)))))))))))))))))))

builtins_never : Each NeverAsks builtins
builtins_never = (λ ts next goal e. cc, (λ ts next goal e. cc, (λ ts next goal e. cc, (λ ts next goal e. cc, (λ ts next goal e. cc, (λ ts next goal e. cc, (λ ts next goal e. cc, (λ ts next goal e. cc, (λ ts next goal e. cc, (λ ts next goal e. cc, (λ ts next goal e. cc, (λ ts next goal e. cc, (λ ts next goal e. cc, (λ ts next goal e. cc, (λ ts next goal e. cc, (λ ts next goal e. cc, (λ ts next goal e. cc, (λ ts next goal e. cc, (λ ts next goal e. cc, (λ ts next goal e. cc, (λ ts next goal e. cc, (λ ts next goal e. cc, (λ ts next goal e. cc, (λ ts next goal e. cc, (λ ts next goal e. cc, (λ ts next goal e. cc, (λ ts next goal e. cc, (λ ts next goal e. cc, (λ ts next goal e. cc, (λ ts next goal e. cc, (λ ts next goal e. cc, (λ ts next goal e. cc, (λ ts next goal e. cc, (λ ts next goal e. cc, (λ ts next goal e. cc, (λ ts next goal e. cc, (λ ts next goal e. cc, (λ ts next goal e. cc, (λ ts next goal e. cc, (λ ts next goal e. cc, tt))))))))))))))))))))))))))))))))))))))))

procedure_asks : (b : Bool) (clauses : List Clause) (g : Term) (next : ℕ) (goal : Term) → by_procedure b clauses g next ≡ AskWorld goal → goal ≡ g
procedure_asks true clauses g next goal e = cc
procedure_asks false clauses g next goal e = cc

world_goal_asks : (b : Bool) (clauses : List Clause) (g : Term) (next : ℕ) (goal : Term) → by_world_goal b clauses g next ≡ AskWorld goal → goal ≡ g
world_goal_asks true clauses g next goal e = cc
world_goal_asks false clauses g next goal e = procedure_asks (is_defined clauses (name_of g) (argument_count g)) clauses g next goal e

builtin_asks : (o : Option Construct) (clauses : List Clause) (g : Term) (next : ℕ) (goal : Term) → IfFound (λ c. NeverAsks c × (is_named (name_of g) (argument_count g) c ≡ true)) o → by_builtin o clauses g next ≡ AskWorld goal → goal ≡ g
builtin_asks None clauses g next goal r e = world_goal_asks (is_world_goal (name_of g) (argument_count g)) clauses g next goal e
builtin_asks (Some c) clauses g next goal r e = absurd (r.0 _ next goal e)

construct_asks : (o : Option Construct) (clauses : List Clause) (g : Term) (next : ℕ) (goal : Term) → IfFound (λ c. NeverAsks c × (is_named (name_of g) (argument_count g) c ≡ true)) o → by_construct o clauses g next ≡ AskWorld goal → goal ≡ g
construct_asks None clauses g next goal r e =
    builtin_asks (construct_of builtins (name_of g) (argument_count g)) clauses g next goal (found_row NeverAsks (is_named (name_of g) (argument_count g)) builtins builtins_never) e
construct_asks (Some c) clauses g next goal r e = absurd (r.0 _ next goal e)

named_asks : (clauses : List Clause) (g : Term) (next : ℕ) (goal : Term) → named_outcome clauses g next ≡ AskWorld goal → goal ≡ g
named_asks clauses g next goal e =
    construct_asks (construct_of control_constructs (name_of g) (argument_count g)) clauses g next goal (found_row NeverAsks (is_named (name_of g) (argument_count g)) control_constructs control_never) e

pub asked_itself : (clauses : List Clause) (g : Term) (next : ℕ) (goal : Term) → outcome_of clauses g next ≡ AskWorld goal → goal ≡ g
unfolding outcome_of
asked_itself clauses (VarTerm n) next goal e = cc
asked_itself clauses (IntTerm z) next goal e = cc
asked_itself clauses (AtomTerm a) next goal e = named_asks clauses (AtomTerm a) next goal e
asked_itself clauses (Compound f ts) next goal e = named_asks clauses (Compound f ts) next goal e

-- it can be called
pub asked_callable : (clauses : List Clause) (g : Term) (next : ℕ) (goal : Term) → outcome_of clauses g next ≡ AskWorld goal → is_callable g ≡ true
unfolding outcome_of
asked_callable clauses (VarTerm n) next goal e = cc
asked_callable clauses (IntTerm z) next goal e = cc
asked_callable clauses (AtomTerm a) next goal e = refl
asked_callable clauses (Compound f ts) next goal e = refl
