-- The job of a brand of which none was picked.
use Rattle.std.specs.Prelude.{[]}
use Rattle.run_model.specs.Programs.Databases.{no_procedures}
use Rattle.run_model.specs.Programs.Jobs.{Job}

abbrev pub no_job : Job
no_job = record { clauses = []; database = no_procedures; operators = []; queries = [] }
