-- A stop before any inference is at the gate of its alternative.
use Rattle.std.proofs.Common.{◌≡◌, ℕ, List, ◌∷◌, Some, sym, ap, ◌∙◌, subst}
use Rattle.run_model.specs.Machine.Entries.{Entry}
use Rattle.run_model.specs.Programs.Jobs.{Job}
use Rattle.region_floor.specs.RegionRuns.{MarksAreOuter, StandsAtGate}
use Rattle.tree_model.specs.Floors.{floor_of, with_heights}
use Rattle.tree_model.specs.Gates.{gate_on}
use Rattle.tree_model.specs.LegalTrees.{IsLegalTree}
use Rattle.tree_model.specs.Legality.{gate_of, taken_at}
use Rattle.tree_model.specs.Levels.{Place, Spot, levels_of}
use Rattle.tree_model.specs.Nodes.{Gate, Pending}
use Rattle.tree_model.specs.TreeStates.{TreeState}
use Rattle.tree_model.specs.Ways.{IsAwake}
use Rattle.tree_core.specs.Histories.{TreeView, NodesStand, state_of}
use Rattle.task_region.specs.TaskLoads.{run_on_branch}
use Rattle.branch_shapes.proofs.OutLemmas.{IsOutAt, out_at, awake_at}
use Rattle.task_region.specs.TaskViews.{TaskView}
use Rattle.task_region.specs.declared.running.TaskStop.{TaskStop}
use Rattle.task_region.specs.declared.running.TaskStop.TheVariants.{Limit, Cut, World, Removal, Answer, Collect, Ball, Empty}
use Rattle.task_publishing.proofs.JobLemmas.{job_of_state}
use Rattle.task_stops.specs.StopCauses.{HasStoppedFor, StopsThereFor}
use Rattle.task_stops.specs.StopGates.{IsGateOfStop, StopsAreGates, CutStopsAreCuts}
use Rattle.task_stops.proofs.GateRestLemmas.{gate_at_start}

module _ (outer : MarksAreOuter) (v : TreeView) (w : ℕ) (a : Place) (task : TaskView) (stop : TaskStop) (stand : NodesStand v) (legal : IsLegalTree (state_of v.history))
    (stops : StopsThereFor v.nodes a v.history.job.clauses 0 task stop) where
  abbrev t : TreeState
  t = state_of v.history

  abbrev job : Job
  job = v.history.job

  module _ (s : Spot) (taken : taken_at w a t ≡ Some s) where
    there : IsOutAt job v.nodes t w a s
    there = out_at job v.nodes t w a s stand.placed taken

    stopped : HasStoppedFor t.job.clauses (levels_of s) job there.way 0 task stop
    stopped =
        subst (λ (j : Job). HasStoppedFor j.clauses (levels_of s) job there.way 0 task stop) (sym (job_of_state v.history))
        (stops job _ s.level s.above (Pending s.hold s.entry) there.way there.at there.table there.on)

    gate_here : (g : Gate) (stack : List Entry) → StandsAtGate (run_on_branch t.job.clauses (levels_of s) job there.way) 0 stack g → gate_of t s ≡ Some g
    unfolding gate_of
    gate_here g stack st =
        ap (λ e. gate_on t.job.clauses (levels_of s) (with_heights (levels_of s) e ∷ floor_of (levels_of s))) there.reads
        ∙ gate_at_start t.job.clauses s.level s.above outer job there.way stack g (subst IsAwake there.reads (awake_at job v.nodes t w a s legal there).awake) st

gates_by : MarksAreOuter → (v : TreeView) (w : ℕ) (a : Place) (task : TaskView) (stop : TaskStop) → NodesStand v → IsLegalTree (state_of v.history)
    → StopsThereFor v.nodes a v.history.job.clauses 0 task stop → IsGateOfStop stop w a (state_of v.history)
gates_by outer v w a task Limit stand legal stops = tt
gates_by outer v w a task (Cut height) stand legal stops =
    λ s taken. gate_here outer v w a task (Cut height) stand legal stops s taken _ _ (stopped outer v w a task (Cut height) stand legal stops s taken).stops.2
gates_by outer v w a task (World item g) stand legal stops =
    λ s taken. gate_here outer v w a task (World item g) stand legal stops s taken _ _ (stopped outer v w a task (World item g) stand legal stops s taken).stops.1
gates_by outer v w a task (Removal clause) stand legal stops =
    λ s taken. gate_here outer v w a task (Removal clause) stand legal stops s taken _ _ (stopped outer v w a task (Removal clause) stand legal stops s taken).stops.1
gates_by outer v w a task Answer stand legal stops =
    λ s taken. gate_here outer v w a task Answer stand legal stops s taken _ _ (stopped outer v w a task Answer stand legal stops s taken).stops.1
gates_by outer v w a task (Collect number) stand legal stops = tt
gates_by outer v w a task (Ball ball) stand legal stops =
    λ s taken.
    let falls = (stopped outer v w a task (Ball ball) stand legal stops s taken).stops.2 in
    (falls.scope, gate_here outer v w a task (Ball ball) stand legal stops s taken _ _ falls.stops)
gates_by outer v w a task Empty stand legal stops = tt

pub stops_are_gates : MarksAreOuter → StopsAreGates
stops_are_gates outer v w a task stop stand legal stops = gates_by outer v w a task stop stand legal stops

pub cut_stops_are_cuts : CutStopsAreCuts
cut_stops_are_cuts height w a t gate = λ s taken. (_, gate s taken)
