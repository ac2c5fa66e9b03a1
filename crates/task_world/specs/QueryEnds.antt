-- What comes of the end of a query.
use Rattle.std.specs.Prelude.{List}
use Rattle.run_model.specs.Programs.Jobs.{Query}
use Rattle.tree_model.specs.TreeStates.{queries_after}
use Rattle.public_tree.specs.declared.answering.Answering.TheVariants.{Taken, NotLeftmost, HasEnded}
use Rattle.task_world.specs.declared.step.FrontStep.{FrontStep}
use Rattle.task_world.specs.declared.step.FrontStep.TheVariants.{Done, Closes}

-- of the queries that were left, those that are left after it
abbrev pub still_left : FrontStep → List Query → List Query
still_left (Done Taken) queries = queries_after queries
still_left (Done NotLeftmost) queries = queries
still_left (Done HasEnded) queries = queries
still_left (Closes closing) queries = queries
