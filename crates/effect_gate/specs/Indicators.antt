-- What Name/Arity has to be, condition by condition.
use Rattle.std.specs.Prelude.{◌≡◌, nat_lt, not, ◌||◌, ◌&&◌, [], ◌∷◌, Option, codes}
use Rattle.au_term.specs.Term.{Term, arguments, term_at}
use Rattle.au_model.specs.Terms.Forms.{name_of}
use Rattle.au_model.specs.Terms.TermTypes.{is_variable, is_integer, is_atom}
use Rattle.au_model.specs.Terms.ErrorTerms.{instantiation_error, type_error, domain_error, representation_error}
use Rattle.au_model.specs.Syntax.OperatorChanges.{error_if, first_error}
use Rattle.run_model.specs.Goals.DatabaseGoals.{is_indicator, is_below_zero, number_in}
use Rattle.dyn_clauses.specs.declared.indicator.Indicator.{Indicator}

abbrev pub name_part : Term → Term
name_part t = term_at 0 (arguments t)

abbrev pub arity_part : Term → Term
arity_part t = term_at 1 (arguments t)

-- the errors of a term that is no Name/Arity, or of which a part is a variable
abbrev pub shape_error : Term → Option Term
shape_error t =
    first_error (error_if (is_variable t || (is_indicator t && (is_variable (name_part t) || is_variable (arity_part t)))) instantiation_error
    ∷ error_if (not (is_indicator t)) (type_error (codes "predicate_indicator") t)
    ∷ [])

-- those of the parts
abbrev pub parts_error : Term → Term → Option Term
parts_error name arity =
    first_error (error_if (not (is_atom name)) (type_error (codes "atom") name)
    ∷ error_if (not (is_integer arity)) (type_error (codes "integer") arity)
    ∷ error_if (is_below_zero arity) (domain_error (codes "not_less_than_zero") arity)
    ∷ error_if (nat_lt 65535 (number_in arity)) (representation_error (codes "max_arity"))
    ∷ [])

-- the parts are terms
abbrev pub AreParts : Term → Term × Term → Type 0
AreParts t parts = (parts.0 ≡ name_part t) × (parts.1 ≡ arity_part t)

-- a procedure has this name and number of arguments
abbrev pub IsProcedureOf : Term → Term → Indicator → Type 0
IsProcedureOf name arity i = (i.name ≡ name_of name) × (i.arity ≡ number_in arity)
