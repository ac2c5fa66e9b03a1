-- The control constructs, one row for each (ISO/IEC 13211-1, 7.8, 8.10.1, 8.15.1 and 8.15.2; `false` and `call` with
-- further arguments are of its second corrigendum).
use Rattle.std.specs.Prelude.{ℕ, ◌&&◌, ◌==◌, Bool, cond, List, [], ◌∷◌, Option, Some, None, codes, nat_lt, find}
use Rattle.au_term.specs.Term.{Term, VarTerm, IntTerm, AtomTerm, Compound, Terms, end, more, term_at, drop_terms, argument_count}
use Rattle.au_model.specs.Terms.Forms.{same_name}
use Rattle.au_term.specs.PrefixOrder.{append_terms}
use Rattle.run_model.specs.Programs.Bodies.{call_of, goals_of, called_goals}
use Rattle.au_model.specs.Terms.ErrorTerms.{error_term, instantiation_error, type_error, representation_error}
use Rattle.run_model.specs.Goals.Outcomes.{Outcome, Replies, Ball, Solutions, Controls, ControlForm, GoesOnWith, EitherOf, TestOf, CutToScope, CatchOf, FindallOf}

-- what goals of a name and number of arguments come to, by their arguments and the next number
pub record Construct : Type 0 where
  pub name : List ℕ
  pub arity : ℕ
  pub outcome : Terms → ℕ → Outcome

abbrev pub is_named : List ℕ → ℕ → Construct → Bool
is_named name arity c = same_name c.name name && c.arity == arity

abbrev pub construct_of : List Construct → List ℕ → ℕ → Option Construct
construct_of constructs name arity = find (is_named name arity) constructs

abbrev pub fail_goals : List Term
fail_goals = AtomTerm (codes "fail") ∷ []

abbrev pub true_goals : List Term
true_goals = AtomTerm (codes "true") ∷ []

abbrev pub raises : Term → List ℕ → ℕ → Outcome
raises e name arity = Replies (Ball (error_term e name arity))

-- the goal that is called: a term with further arguments
abbrev pub with_arguments : Term → Terms → Term
with_arguments t end = t
with_arguments (AtomTerm a) us = Compound a us
with_arguments (Compound f ts) us = Compound f (append_terms ts us)
with_arguments t us = t

abbrev pub called : ℕ → Term → Option (List Term) → Outcome
called arity goal (Some gs) = Controls (GoesOnWith gs)
called arity goal None = raises (type_error (codes "callable") goal) (codes "call") arity

-- call(T, Arguments..), with so many arguments in all
abbrev pub call_outcome : ℕ → Term → Terms → Outcome
call_outcome arity (VarTerm n) us = raises instantiation_error (codes "call") arity
call_outcome arity (IntTerm z) us = raises (type_error (codes "callable") (IntTerm z)) (codes "call") arity
call_outcome arity t us =
    let goal = with_arguments t us in
    cond (nat_lt 65535 (argument_count goal)) (raises (representation_error (codes "max_arity")) (codes "call") arity) (called arity goal (called_goals goal))

abbrev pub throw_outcome : Term → Outcome
throw_outcome (VarTerm n) = raises instantiation_error (codes "throw") 1
throw_outcome ball = Replies (Ball ball)

-- (A ; B), and (C -> T ; E) where A is (C -> T)
abbrev pub either_form : Term → Term → ControlForm
either_form (Compound f (more c (more t end))) e =
    cond (same_name f (codes "->")) (TestOf (goals_of c) (goals_of t) (goals_of e)) (EitherOf (goals_of (Compound f (more c (more t end)))) (goals_of e))
either_form a b = EitherOf (goals_of a) (goals_of b)

abbrev pub row : List ℕ → ℕ → (Terms → Outcome) → Construct
row name arity outcome = record { name = name; arity = arity; outcome = λ ts next. outcome ts }

abbrev pub form_row : List ℕ → ℕ → (Terms → ControlForm) → Construct
form_row name arity form = row name arity (λ ts. Controls (form ts))

abbrev pub call_row : ℕ → Construct
call_row arity = row (codes "call") arity (λ ts. call_outcome arity (term_at 0 ts) (drop_terms 1 ts))

abbrev pub control_constructs : List Construct
control_constructs =
    form_row (codes "true") 0 (λ ts. GoesOnWith [])
    ∷ row (codes "fail") 0 (λ ts. Replies (Solutions []))
    ∷ row (codes "false") 0 (λ ts. Replies (Solutions []))
    ∷ form_row (codes "!") 0 (λ ts. CutToScope)
    ∷ form_row (codes ";") 2 (λ ts. either_form (term_at 0 ts) (term_at 1 ts))
    ∷ form_row (codes "->") 2 (λ ts. TestOf (goals_of (term_at 0 ts)) (goals_of (term_at 1 ts)) fail_goals)
    ∷ form_row (codes "\\+") 1 (λ ts. TestOf (call_of (term_at 0 ts) ∷ []) fail_goals true_goals)
    ∷ form_row (codes "once") 1 (λ ts. TestOf (call_of (term_at 0 ts) ∷ []) true_goals fail_goals)
    ∷ row (codes "throw") 1 (λ ts. throw_outcome (term_at 0 ts))
    ∷ form_row (codes "catch") 3 (λ ts. CatchOf (term_at 0 ts) (term_at 1 ts) (term_at 2 ts))
    ∷ form_row (codes "findall") 3 (λ ts. FindallOf (term_at 0 ts) (term_at 1 ts) (term_at 2 ts))
    ∷ call_row 1 ∷ call_row 2 ∷ call_row 3 ∷ call_row 4 ∷ call_row 5 ∷ call_row 6 ∷ call_row 7 ∷ call_row 8
    ∷ []
