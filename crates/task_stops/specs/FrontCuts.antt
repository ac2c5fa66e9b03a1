-- The cut that comes first at an alternative, by what its node was made from.
use Rattle.std.specs.Prelude.{◌≡◌, List, [], ◌∷◌, Option, Some, None}
use Rattle.clause_compile.specs.declared.item.Item.{Item}
use Rattle.clause_compile.specs.declared.item.Item.TheVariants.{Goal, CatchEnd, Collect, Remove, End}
use Rattle.clause_compile.specs.declared.item.Scope.{Scope}
use Rattle.task_region.specs.declared.running.TaskStop.{TaskStop}
use Rattle.task_region.specs.declared.running.TaskStop.TheVariants.{Limit, Cut, World, Removal, Answer, Collect as CollectStop, Ball, Empty}
use Rattle.tree_model.specs.Nodes.{Gate, CutGate, WorldGate}
use Rattle.tree_nodes.specs.Rows.{scope_number}

-- the scope of the first goal past the ends of catches, where that is what comes first
abbrev pub scope_in_front : List Item → Option Scope
scope_in_front [] = None
scope_in_front (Goal term cut ∷ items) = Some cut
scope_in_front (CatchEnd scope ∷ items) = scope_in_front items
scope_in_front (Collect template scope ∷ items) = None
scope_in_front (Remove id ∷ items) = None
scope_in_front (End ball ∷ items) = None

-- the gate of a stop at a cut to this scope, or where the world is needed
abbrev pub IsGateFor : TaskStop → Option Scope → Gate → Type 0
IsGateFor Limit front g = ⊥
IsGateFor (Cut height) front g = (scope : Scope) × ((front ≡ Some scope) × (g ≡ CutGate (scope_number scope)))
IsGateFor (World item at) front g = g ≡ WorldGate
IsGateFor (Removal clause) front g = g ≡ WorldGate
IsGateFor Answer front g = g ≡ WorldGate
IsGateFor (CollectStop number) front g = ⊥
IsGateFor (Ball ball) front g = ⊥
IsGateFor Empty front g = ⊥
