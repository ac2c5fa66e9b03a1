-- How many queries were opened, after what has come of the end of one.
use Rattle.std.specs.Prelude.{◌≡◌, ◌≤◌, ℕ, List, drop, length}
use Rattle.public_tree.specs.declared.answering.Answering.TheVariants.{Taken, NotLeftmost, HasEnded}
use Rattle.run_model.specs.Programs.Jobs.{Query}
use Rattle.task_world.specs.declared.step.FrontStep.{FrontStep}
use Rattle.task_world.specs.declared.step.FrontStep.TheVariants.{Done, Closes}
use Rattle.tree_model.specs.TreeStates.{queries_after}

-- where the end was taken, one less is left, if any was
abbrev pub queries_left_after : FrontStep → List Query → List Query
queries_left_after (Done Taken) queries = queries_after queries
queries_left_after (Done NotLeftmost) queries = queries
queries_left_after (Done HasEnded) queries = queries
queries_left_after (Closes closing) queries = queries_after queries

-- of so many queries, as many as before or one more were opened
pub record CountsOpened (count asked : ℕ) (step : FrontStep) (now : ℕ) : Type 0 where
  pub within : now ≤ count
  pub left : (queries : List Query) → length queries ≡ count → drop now queries ≡ queries_left_after step (drop asked queries)
