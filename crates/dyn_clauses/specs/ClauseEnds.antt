-- The ends of a procedure at which clauses are put.
use Rattle.std.specs.Prelude.{ℕ}
use Rattle.au_term.specs.Term.{argument_count}
use Rattle.au_model.specs.Terms.Forms.{name_of}
use Rattle.run_model.specs.Programs.Clauses.{Clause as ClauseTerms}
use Rattle.run_model.specs.Programs.Databases.{Database}
use Rattle.run_model.specs.Programs.DatabaseChanges.{with_first_clause, with_last_clause}
use Rattle.dyn_clauses.specs.PositionIndex.{first_position, last_position}
use Rattle.dyn_clauses.specs.declared.indicator.Indicator.{Indicator}
use Rattle.dyn_clauses.specs.declared.database.End.{End}
use Rattle.dyn_clauses.specs.declared.database.End.TheVariants.{First, Last}

-- a clause's procedure
abbrev pub indicator_of : ClauseTerms → Indicator
indicator_of c = record { name = name_of c.head; arity = argument_count c.head }

abbrev pub end_position : End → ℕ → ℕ
end_position First n = first_position n
end_position Last n = last_position n

abbrev pub with_clause_at : End → Database → ClauseTerms → Database
with_clause_at First db c = with_first_clause db c
with_clause_at Last db c = with_last_clause db c
