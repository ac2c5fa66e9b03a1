-- What is promised of a job's tree.
use Rattle.std.specs.Prelude.{◌≡◌, ◌≢◌, ◌⊎◌, ℕ, true, [], None, Some}
use Rattle.run_model.specs.declared.ending.RunEnding.{RunEnding}
use Rattle.run_model.specs.declared.ending.RunEnding.TheVariants.{Budget}
use Rattle.run_model.specs.Machine.Runs.{answers_of, inferences_of}
use Rattle.tree_model.specs.HandOuts.{Never, handed_after}
use Rattle.tree_model.specs.Histories.{IsLegalHistory}
use Rattle.tree_model.specs.Legality.{claimable, resumable}
use Rattle.tree_model.specs.Levels.{Place}
use Rattle.tree_model.specs.Promises.{KeepsPrefix, EndsRight, tasks_out}
use Rattle.tree_model.specs.TreeStates.{ended}
use Rattle.public_tree.specs.PublicTrees.{is_going}
use Rattle.tree_core.specs.Histories.{History, state_of}

pub record KeepsPromises (h : History) : Type 0 where
  pub legal : IsLegalHistory h.job h.budget h.window h.events
  -- no alternative was claimed twice, or out to two workers
  pub once : (a : Place) → handed_after a h.events Never ≢ None
  -- while the tree goes on and nobody has a task, there is one to take
  pub going : is_going (state_of h) ≡ true → tasks_out (state_of h) ≡ [] → claimable (state_of h) ≢ None ⊎ resumable (state_of h) ≢ None
  -- what was written is a front of the sequential text
  pub prefix : KeepsPrefix h.job h.budget (state_of h)
  -- once ended, it has the sequential text, ending and counts
  pub end : EndsRight h.job h.budget (state_of h)

-- where the tree has ended, these are the answers of the sequential run, and short of the budget its answers and inferences
pub record AreFinalCounts (h : History) (counts : ℕ × ℕ) : Type 0 where
  pub answers : (e : RunEnding) → ended (state_of h) ≡ Some e → counts.0 ≡ answers_of h.job h.budget
  pub both : (e : RunEnding) → ended (state_of h) ≡ Some e → e ≢ Budget → counts ≡ (answers_of h.job h.budget, inferences_of h.job h.budget)
