-- What a task that has stopped before any inference tells, stop by stop.
use Rattle.std.proofs.Common.{◌≡◌, ℕ, subst}
use Rattle.region_control.specs.declared.control.GoalPlace.{GoalPlace}
use Rattle.region_split.specs.declared.frame.FrameItem.{FrameItem}
use Rattle.task_stops.specs.StopCauses.{StopsThereFor}
use Rattle.task_stops.specs.StopGates.{IsGateOfStop, StopsAreGates}
use Rattle.task_region.specs.declared.running.TaskStop.{TaskStop}
use Rattle.task_region.specs.declared.running.TaskStop.TheVariants.{World, Removal, Answer}
use Rattle.scheduler.specs.FrontTurns.{IsTaskAtWorld}
use Rattle.scheduler.specs.StoppedTasks.{HasStoppedOut}
use Rattle.scheduler.specs.declared.running.StoppedTask.{StoppedTask}
use Rattle.scheduler.proofs.FrontLemmas.{answer_at_world, goal_at_world, removal_at_world}
use Rattle.task_world.specs.FrontsTold.{StopsAtFront}
use Rattle.region_split.specs.Texts.{TextView}
use Rattle.tree_core.specs.Histories.{TreeView, NodesStand, state_of}
use Rattle.tree_model.specs.LegalTrees.{IsLegalTree}
use Rattle.tree_model.specs.Levels.{Place}

module _ (text : TextView) (v : TreeView) (w : ℕ) (a : Place) (s : StoppedTask) (stopped : HasStoppedOut text v a s) (none : s.taken ≡ 0) (stand : NodesStand v)
    (lawful : IsLegalTree (state_of v.history)) (law : StopsAreGates) (stop : TaskStop) (is : s.stop ≡ stop) where
  pub stops_at_once : StopsThereFor v.nodes a v.history.job.clauses 0 s.task stop
  stops_at_once =
      subst (StopsThereFor v.nodes a v.history.job.clauses 0 s.task) is
      (subst (λ n. StopsThereFor v.nodes a v.history.job.clauses n s.task s.stop) none stopped.stops)

  pub stops_in_front : StopsAtFront v.nodes a v.history.job.clauses s.task stop
  stops_in_front = subst (StopsAtFront v.nodes a v.history.job.clauses s.task) is (stopped.front none)

  pub gate_there : IsGateOfStop stop w a (state_of v.history)
  gate_there = law v w a s.task stop stand lawful stops_at_once

module _ (text : TextView) (v : TreeView) (w : ℕ) (a : Place) (s : StoppedTask) (stopped : HasStoppedOut text v a s) (none : s.taken ≡ 0) (stand : NodesStand v)
    (lawful : IsLegalTree (state_of v.history)) (law : StopsAreGates) where
  pub goal_there : (item : FrameItem) (g : GoalPlace) → s.stop ≡ World item g → IsTaskAtWorld w a (state_of v.history)
  goal_there item g is =
      goal_at_world v w a v.history.job.clauses s.task stand (gate_there text v w a s stopped none stand lawful law (World item g) is) item g
      (stops_in_front text v w a s stopped none stand lawful law (World item g) is).stops

  pub removal_there : (clause : ℕ) → s.stop ≡ Removal clause → IsTaskAtWorld w a (state_of v.history)
  removal_there clause is =
      removal_at_world v w a v.history.job.clauses s.task stand (gate_there text v w a s stopped none stand lawful law (Removal clause) is) clause
      (stops_in_front text v w a s stopped none stand lawful law (Removal clause) is).stops

  pub answer_there : s.stop ≡ Answer → IsTaskAtWorld w a (state_of v.history)
  answer_there is =
      answer_at_world v w a v.history.job.clauses s.task stand (gate_there text v w a s stopped none stand lawful law Answer is)
      (stops_in_front text v w a s stopped none stand lawful law Answer is).stops
