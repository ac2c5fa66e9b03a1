-- Goals that end the run (ISO/IEC 13211-1, 8.17.3 and 8.17.4). Statuses from 64 on tell how a run failed.
use Rattle.std.specs.Prelude.{ℕ, Bool, true, false, not, nat_le, pos, negsuc, List, [], ◌∷◌, Option, codes}
use Rattle.au_term.specs.Term.{Term, VarTerm, IntTerm, AtomTerm, Compound, term_at}
use Rattle.au_model.specs.Terms.TermTypes.{is_variable, is_integer}
use Rattle.au_model.specs.Terms.ErrorTerms.{instantiation_error, type_error, domain_error}
use Rattle.au_model.specs.Syntax.OperatorChanges.{error_if, first_error}
use Rattle.run_model.specs.Goals.Outcomes.{Reply, HaltNumber}
use Rattle.run_model.specs.Goals.DatabaseGoals.{number_in}
use Rattle.run_model.specs.Goals.WorldConstructs.{World, WorldConstruct, world_goal, unless_raised}

abbrev pub is_exit_status : Term → Bool
is_exit_status (IntTerm (pos n)) = nat_le n 63
is_exit_status t = false

abbrev pub status_error : Term → Option Term
status_error t =
    first_error (error_if (is_variable t) instantiation_error
    ∷ error_if (not (is_integer t)) (type_error (codes "integer") t)
    ∷ error_if (not (is_exit_status t)) (domain_error (codes "exit_status") t)
    ∷ [])

-- halt(Status)
abbrev pub halted_by : Term → World → World × Reply
halted_by t w = unless_raised (codes "halt") 1 w (status_error t) (w, HaltNumber (number_in t))

abbrev pub halt_goals : List WorldConstruct
halt_goals =
    world_goal (codes "halt") 0 (λ statics ts next w. (w, HaltNumber 0))
    ∷ world_goal (codes "halt") 1 (λ statics ts next w. halted_by (term_at 0 ts) w)
    ∷ []
