-- The sequential run as the run with heights in which no credit is.
use Rattle.std.specs.Prelude.{ℕ, ◌≡◌}
use Rattle.run_model.specs.Programs.Jobs.{Job}
use Rattle.run_model.specs.Machine.States.{opened}
use Rattle.run_model.specs.Machine.Runs.{seq}
use Rattle.interleaving.specs.Machine.{is_finished}
use Rattle.interleaving.specs.Scopes.{shared, first_shared}
use Rattle.interleaving.specs.HeightMachine.{HeightState, height_entries, height_at_rest, height_run}
use Rattle.interleaving.specs.Counted.{counted_steps}

abbrev pub height_opening : Job → HeightState
height_opening job = (first_shared job, height_at_rest (height_entries (opened job.queries)))

abbrev pub height_after : Job → ℕ → HeightState
height_after job n = height_run job.clauses n (height_opening job)

-- its entries, what they share, and its inferences
pub record IsHeightRun (job : Job) (n : ℕ) : Type 0 where
  pub entries : (height_after job n).1 ≡ height_entries (seq job n).entries
  pub state : (height_after job n).0 ≡ shared (seq job n)
  pub inferences : (seq job n).inferences ≡ counted_steps (λ k. is_finished (height_after job k).1) n
