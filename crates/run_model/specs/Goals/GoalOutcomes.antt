-- What a goal comes to (ISO/IEC 13211-1, 7.7.7).
pub use Rattle.run_model.specs.Goals.Worlds.{has_row, is_reserved}
use Rattle.std.specs.Prelude.{ℕ, Bool, true, false, List, Option, Some, None}
use Rattle.au_term.specs.Term.{Term, VarTerm, IntTerm, AtomTerm, Compound, end, arguments, argument_count}
use Rattle.au_model.specs.Terms.Forms.{name_of}
use Rattle.run_model.specs.Programs.Clauses.{Clause, is_defined}
use Rattle.run_model.specs.Goals.Outcomes.{Outcome, Replies, Solutions, AskWorld, alternatives_of}
use Rattle.run_model.specs.Goals.Control.{Construct, construct_of, control_constructs, call_outcome}
use Rattle.run_model.specs.Goals.Builtins.{builtins}
use Rattle.run_model.specs.Goals.Worlds.{is_world_goal}

-- the text's own procedures are static; all others are the world's
abbrev pub by_procedure : Bool → List Clause → Term → ℕ → Outcome
by_procedure true clauses goal next = Replies (Solutions (alternatives_of clauses goal next))
by_procedure false clauses goal next = AskWorld goal

abbrev pub by_world_goal : Bool → List Clause → Term → ℕ → Outcome
by_world_goal true clauses goal next = AskWorld goal
by_world_goal false clauses goal next = by_procedure (is_defined clauses (name_of goal) (argument_count goal)) clauses goal next

abbrev pub by_builtin : Option Construct → List Clause → Term → ℕ → Outcome
by_builtin (Some c) clauses goal next = c.outcome (arguments goal) next
by_builtin None clauses goal next = by_world_goal (is_world_goal (name_of goal) (argument_count goal)) clauses goal next

abbrev pub by_construct : Option Construct → List Clause → Term → ℕ → Outcome
by_construct (Some c) clauses goal next = c.outcome (arguments goal) next
by_construct None clauses goal next = by_builtin (construct_of builtins (name_of goal) (argument_count goal)) clauses goal next

abbrev pub named_outcome : List Clause → Term → ℕ → Outcome
named_outcome clauses goal next = by_construct (construct_of control_constructs (name_of goal) (argument_count goal)) clauses goal next

-- by the text's clauses and the next number; a variable or an integer comes to what calling it does
unfoldable pub outcome_of : List Clause → Term → ℕ → Outcome
outcome_of clauses (VarTerm n) next = call_outcome 1 (VarTerm n) end
outcome_of clauses (IntTerm z) next = call_outcome 1 (IntTerm z) end
outcome_of clauses (AtomTerm a) next = named_outcome clauses (AtomTerm a) next
outcome_of clauses (Compound f ts) next = named_outcome clauses (Compound f ts) next
