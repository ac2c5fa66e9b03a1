-- Goals that look at the world or change it: the table, and what they come to.
pub use Rattle.run_model.specs.Goals.WorldConstructs.{World, first_world, plain_world, writes, WorldConstruct, Statics}
use Rattle.std.specs.Prelude.{ℕ, Bool, ◌&&◌, ◌||◌, ◌==◌, List, ◌++◌, Option, Some, None, find, is_some, codes}
use Rattle.au_term.specs.Term.{Term, arguments, argument_count}
use Rattle.au_model.specs.Terms.Forms.{same_name, name_of, indicator}
use Rattle.run_model.specs.Programs.Clauses.{Clause, is_defined}
use Rattle.au_model.specs.Terms.ErrorTerms.{error_term, existence_error}
use Rattle.run_model.specs.Goals.Outcomes.{Reply, Solutions, Ball, alternatives_of}
use Rattle.run_model.specs.Goals.Control.{construct_of, control_constructs}
use Rattle.run_model.specs.Goals.Builtins.{builtins}
use Rattle.run_model.specs.Goals.OutputGoals.{output_goals}
use Rattle.run_model.specs.Goals.DatabaseGoals.{database_goals}
use Rattle.run_model.specs.Goals.OperatorGoals.{operator_goals}
use Rattle.run_model.specs.Goals.HaltGoals.{halt_goals}
use Rattle.run_model.specs.Programs.Databases.{NumberedClause, clauses_of, plain_clauses}

-- one row for each
abbrev pub world_constructs : List WorldConstruct
world_constructs = output_goals ++ (database_goals ++ (operator_goals ++ halt_goals))

abbrev pub is_world_construct : List ℕ → ℕ → WorldConstruct → Bool
is_world_construct name arity c = same_name c.name name && c.arity == arity

abbrev pub world_construct_of : List ℕ → ℕ → Option WorldConstruct
world_construct_of name arity = find (is_world_construct name arity) world_constructs

abbrev pub is_world_goal : List ℕ → ℕ → Bool
is_world_goal name arity = is_some (world_construct_of name arity)

-- whether goals of a name and number of arguments are control constructs, built-ins or world goals
abbrev pub has_row : List ℕ → ℕ → Bool
has_row name arity = is_some (construct_of control_constructs name arity) || (is_some (construct_of builtins name arity) || is_world_goal name arity)

-- these and the conjunction may be defined by no clause of a text
abbrev pub is_reserved : List ℕ → ℕ → Bool
is_reserved name arity = (same_name name (codes ",") && arity == 2) || has_row name arity

-- no goal changes these and the text's own procedures
abbrev pub static_among : List Clause → Statics
static_among clauses name arity = is_reserved name arity || is_defined clauses name arity

-- a call of a procedure that isn't static: its clauses of that moment, or an error where there is none (7.7.7)
abbrev pub dynamic_call : Option (List NumberedClause) → Term → ℕ → Reply
dynamic_call (Some cs) goal next = Solutions (alternatives_of (plain_clauses cs) goal next)
dynamic_call None goal next =
    let arity = argument_count goal in
    Ball (error_term (existence_error (indicator (name_of goal) arity)) (name_of goal) arity)

abbrev pub by_world_construct : Option WorldConstruct → Statics → Term → ℕ → World → World × Reply
by_world_construct (Some c) statics goal next w = c.effect statics (arguments goal) next w
by_world_construct None statics goal next w = (w, dynamic_call (clauses_of w.database (name_of goal) (argument_count goal)) goal next)

-- the world after a goal, and what the goal comes to
abbrev pub effect_on : Statics → Term → ℕ → World → World × Reply
effect_on statics goal next w = by_world_construct (world_construct_of (name_of goal) (argument_count goal)) statics goal next w

-- where the clauses of the text are these
abbrev pub world_step : List Clause → Term → ℕ → World → World × Reply
world_step clauses goal next w = effect_on (static_among clauses) goal next w
