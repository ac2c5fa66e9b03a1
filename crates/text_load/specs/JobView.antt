-- What is kept of a job.
use Rattle.std.specs.Prelude.{◌≡◌, List, map}
use Rattle.std.specs.Arc.{arc_value}
use Rattle.run_model.specs.Programs.Clauses.{Clause, is_defined}
use Rattle.run_model.specs.Programs.Jobs.{Job as JobTerms}
use Rattle.dyn_clauses.specs.declared.indicator.Indicator.{Indicator}
use Rattle.dyn_clauses.specs.DatabaseView.{is_static}
use Rattle.text_load.specs.declared.job.JobParts.{JobParts}

-- Which procedures are static: those that have these clauses. The control constructs, the built-in predicates and the
-- goals of the world are static too, and told by their own tables.
abbrev pub AreStatics : List Indicator → List Clause → Type 0
AreStatics statics clauses = (i : Indicator) → is_static statics i ≡ is_defined clauses i.name i.arity

pub record HasParts (job : JobTerms) (parts : JobParts) : Type 0 where
  pub clauses : map arc_value parts.clauses.items ≡ job.clauses
  pub database : parts.database.kept ≡ job.database
  pub operators : parts.ops ≡ job.operators
  pub queries : parts.queries.items ≡ job.queries
