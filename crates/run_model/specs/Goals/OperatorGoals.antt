-- Goals that look at the operators or change them (ISO/IEC 13211-1, 8.14.3 and 8.14.4).
use Rattle.std.specs.Prelude.{ℕ, Bool, not, ◌&&◌, pos, List, [], ◌∷◌, map, Option, None, is_some, Result, Ok, Err, codes}
use Rattle.au_term.specs.Term.{Term, IntTerm, AtomTerm, term_at}
use Rattle.au_model.specs.Terms.Forms.{name_of}
use Rattle.au_model.specs.Terms.TermTypes.{is_variable, is_atom}
use Rattle.au_model.specs.Terms.ErrorTerms.{error_term, type_error, domain_error}
use Rattle.au_model.specs.Syntax.Operators.{OperatorKind, KindXfx, KindXfy, KindYfx, KindFy, KindFx, KindXf, KindYf, OperatorRow, OperatorTable}
use Rattle.au_model.specs.Syntax.OperatorChanges.{kind_named, is_priority, error_if, first_error, operators_changed}
use Rattle.run_model.specs.Goals.Outcomes.{Reply, Solutions, Ball, Solution}
use Rattle.run_model.specs.Goals.WorldConstructs.{World, WorldConstruct, world_goal, holds_once, unless_raised}

-- op(Priority, Specifier, Names), by the table that it leaves or its error
abbrev pub operators_left : Result OperatorTable Term → World → World × Reply
operators_left (Ok operators) w = (record w { operators = operators }, holds_once)
operators_left (Err e) w = (w, Ball (error_term e (codes "op") 3))

-- the specifier of a kind
abbrev pub specifier_of : OperatorKind → List ℕ
specifier_of KindXfx = codes "xfx"
specifier_of KindXfy = codes "xfy"
specifier_of KindYfx = codes "yfx"
specifier_of KindFy = codes "fy"
specifier_of KindFx = codes "fx"
specifier_of KindXf = codes "xf"
specifier_of KindYf = codes "yf"

abbrev pub is_specifier : Term → Bool
is_specifier t = is_atom t && is_some (kind_named (name_of t))

-- what the arguments of current_op/3 have to be where they are no variables
abbrev pub operator_error : Term → Term → Term → Option Term
operator_error priority specifier name =
    first_error (error_if (not (is_variable priority) && not (is_priority priority)) (domain_error (codes "operator_priority") priority)
    ∷ error_if (not (is_variable specifier) && not (is_specifier specifier)) (domain_error (codes "operator_specifier") specifier)
    ∷ error_if (not (is_variable name) && not (is_atom name)) (type_error (codes "atom") name)
    ∷ [])

abbrev pub operator_solution : Term → Term → Term → OperatorRow → Solution
operator_solution priority specifier name row = record {
  equations =
      (priority, IntTerm (pos row.operator.priority))
      ∷ (specifier, AtomTerm (specifier_of row.operator.kind))
      ∷ (name, AtomTerm row.name)
      ∷ [];
  goals = [];
  removes = None;
  variables = 0;
}

-- current_op(Priority, Specifier, Name): the operators of that moment, by name, and then prefix, infix and postfix
abbrev pub current_operators : Term → Term → Term → World → World × Reply
current_operators priority specifier name w =
    unless_raised (codes "current_op") 3 w (operator_error priority specifier name)
    (w, Solutions (map (operator_solution priority specifier name) w.operators))

abbrev pub operator_goals : List WorldConstruct
operator_goals =
    world_goal (codes "op") 3 (λ statics ts next w. operators_left (operators_changed w.operators (term_at 0 ts) (term_at 1 ts) (term_at 2 ts)) w)
    ∷ world_goal (codes "current_op") 3 (λ statics ts next w. current_operators (term_at 0 ts) (term_at 1 ts) (term_at 2 ts) w)
    ∷ []
