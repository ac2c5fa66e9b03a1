-- The gate of an alternative whose task has stopped before any inference.
use Rattle.std.specs.Prelude.{◌≡◌, ℕ, Bool, true, false, Some}
use Rattle.tree_model.specs.Floors.{node_of}
use Rattle.tree_model.specs.Legality.{gate_of, taken_at}
use Rattle.tree_model.specs.LegalTrees.{IsLegalTree}
use Rattle.tree_model.specs.Levels.{Place, Spot, levels_of}
use Rattle.tree_model.specs.Nodes.{BallGate, CutGate, WorldGate}
use Rattle.tree_model.specs.TreeStates.{TreeState}
use Rattle.public_tree.specs.PublicTrees.{IsItsGate}
use Rattle.public_tree.specs.declared.prune.Pruning.{Pruning}
use Rattle.public_tree.specs.declared.prune.Pruning.TheVariants.{Taken, NotCleared, HasEnded}
use Rattle.tree_core.specs.Histories.{History, TreeView, NodesStand, state_of}
use Rattle.task_region.specs.TaskViews.{TaskView}
use Rattle.task_region.specs.declared.running.TaskStop.{TaskStop}
use Rattle.task_region.specs.declared.running.TaskStop.TheVariants.{Limit, Cut, World, Removal, Answer, Collect, Ball, Empty}
use Rattle.task_stops.specs.StopCauses.{StopsThereFor}

-- what is out to a worker has a cut to a node of its branch next, or a ball that lands there
abbrev pub IsBeforeCut : ℕ → Place → TreeState → Type 0
IsBeforeCut w a t = (s : Spot) → taken_at w a t ≡ Some s → (n : ℕ) × (gate_of t s ≡ Some (CutGate n))

abbrev pub IsBeforeBall : ℕ → Place → TreeState → Type 0
IsBeforeBall w a t = (s : Spot) → taken_at w a t ≡ Some s → (n : ℕ) × (gate_of t s ≡ Some (BallGate n))

-- in this tree a stop is at the gate of what is out to a worker: a cut, given by a height, at that of the node of this height
abbrev pub IsGateOfStop : TaskStop → ℕ → Place → TreeState → Type 0
IsGateOfStop Limit w a t = Unit {0}
IsGateOfStop (Cut height) w a t = (s : Spot) → taken_at w a t ≡ Some s → gate_of t s ≡ Some (CutGate (node_of (levels_of s) height))
IsGateOfStop (World item g) w a t = IsItsGate WorldGate w a t
IsGateOfStop (Removal clause) w a t = IsItsGate WorldGate w a t
IsGateOfStop Answer w a t = IsItsGate WorldGate w a t
IsGateOfStop (Collect number) w a t = Unit {0}
IsGateOfStop (Ball ball) w a t = IsBeforeBall w a t
IsGateOfStop Empty w a t = Unit {0}

-- a stop at a cut to a node of the branch, or where the world is needed
abbrev pub is_cut_or_world : TaskStop → Bool
is_cut_or_world Limit = false
is_cut_or_world (Cut height) = true
is_cut_or_world (World item g) = true
is_cut_or_world (Removal clause) = true
is_cut_or_world Answer = true
is_cut_or_world (Collect number) = false
is_cut_or_world (Ball ball) = false
is_cut_or_world Empty = false

abbrev pub IsCutStop : TaskStop → Type 0
IsCutStop Limit = ⊥
IsCutStop (Cut height) = Unit {0}
IsCutStop (World item g) = ⊥
IsCutStop (Removal clause) = ⊥
IsCutStop Answer = ⊥
IsCutStop (Collect number) = ⊥
IsCutStop (Ball ball) = ⊥
IsCutStop Empty = ⊥

-- where a task has stopped before any inference, its alternative stands at that gate
abbrev pub StopsAreGates : Type 0
StopsAreGates = (v : TreeView) (w : ℕ) (a : Place) (task : TaskView) (stop : TaskStop) → NodesStand v → IsLegalTree (state_of v.history)
    → StopsThereFor v.nodes a v.history.job.clauses 0 task stop → IsGateOfStop stop w a (state_of v.history)

-- a cut has a node
abbrev pub CutStopsAreCuts : Type 0
CutStopsAreCuts = (height w : ℕ) (a : Place) (t : TreeState) → IsGateOfStop (Cut height) w a t → IsBeforeCut w a t

-- what is not cleared or has ended stays as it was
abbrev pub IsKeptUntaken : Pruning → History → History → Type 0
IsKeptUntaken Taken old new = Unit {0}
IsKeptUntaken NotCleared old new = new ≡ old
IsKeptUntaken HasEnded old new = new ≡ old
