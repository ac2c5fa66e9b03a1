-- What a job is run with, as the history of its tree has it.
use Rattle.std.specs.Prelude.{◌≡◌, ◌≤◌, true, length, drop}
use Rattle.std.specs.Arc.{arc_value}
use Rattle.run_model.specs.Goals.Worlds.{static_among}
use Rattle.effect_gate.specs.Effects.{statics_of, world_meant}
use Rattle.tree_core.specs.Histories.{History, state_of, with_event}
use Rattle.tree_model.specs.Events.{Event}
use Rattle.scheduler.specs.GivenBack.{leaves_world}
use Rattle.scheduler.specs.declared.job_run.JobRun.{JobRun}

pub record IsJobRun (h : History) (run : JobRun) : Type 0 where
  -- the world is that of the tree, and the program is that of the job
  pub world : world_meant run.world ≡ (state_of h).world
  pub statics : statics_of run.world ≡ static_among h.job.clauses
  pub clauses : (arc_value run.text).clauses ≡ h.job.clauses
  pub kinds : run.kinds ≡ (arc_value run.text).code.names
  -- as many queries were opened as are no longer left
  pub queries : run.queries.items ≡ h.job.queries
  pub asked : run.asked ≤ length h.job.queries
  pub left : (state_of h).queries ≡ drop run.asked h.job.queries

-- what a job is run with stays that of the tree where an event leaves the world
abbrev pub EventsLeaveRuns : Type 0
EventsLeaveRuns = (old new : History) (e : Event) (run : JobRun) → leaves_world e ≡ true → new ≡ with_event e old → IsJobRun old run → IsJobRun new run
