-- The gate at which a task has stopped, for what is given back.
use Rattle.std.proofs.Common.{◌≡◌, ℕ, true, false, Option, sym, ap, subst}
use Rattle.std.specs.Prelude.{is_some}
use Rattle.clause_compile.specs.declared.item.Scope.{Scope}
use Rattle.run_model.specs.Programs.Jobs.{Job}
use Rattle.tree_model.specs.LegalTrees.{IsLegalTree}
use Rattle.tree_model.specs.Legality.{taken_at}
use Rattle.tree_model.specs.Levels.{Place}
use Rattle.tree_model.specs.Nodes.{Gate}
use Rattle.tree_model.specs.TreeStates.{TreeState}
use Rattle.tree_nodes.specs.TreeTables.{NodesView, IsTableOf}
use Rattle.public_tree.specs.PublicTrees.{IsItsGate, is_frozen_gate}
use Rattle.branch_reading.specs.NumberedReadings.{NumberedTreesAreSettled}
use Rattle.branch_reading.specs.Readings.{reading}
use Rattle.branch_shapes.specs.FloorItems.{ScopedItemsNameLevels}
use Rattle.task_region.specs.declared.running.TaskStop.{TaskStop}
use Rattle.task_region.specs.declared.running.TaskStop.TheVariants.{Limit, Cut, World, Removal, Answer, Collect, Ball, Empty}
use Rattle.task_region.specs.PlacesUp.{items_at_place}
use Rattle.task_stops.specs.FrontCuts.{IsGateFor, scope_in_front}
use Rattle.task_stops.specs.StopGates.{IsCutStop, IsGateOfStop}
use Rattle.task_stops.proofs.FrontCutLemmas.{front_out, gate_out}
use Rattle.task_stops.proofs.StopGateLemmas.{cut_stops_are_cuts}

module _ (job : Job) (nodes : NodesView) (t : TreeState) (w : ℕ) (a : Place) (placed : IsTableOf nodes (reading job) t.root) (legal : IsLegalTree t)
    (settled : NumberedTreesAreSettled) (scoped : ScopedItemsNameLevels) where
  pub front_of_cut : (stop : TaskStop) → IsGateOfStop stop w a t → is_some (taken_at w a t) ≡ true → IsCutStop stop
      → is_some (scope_in_front (items_at_place nodes.rows a)) ≡ true
  front_of_cut (Cut height) gate out cut = front_out job nodes t w a placed legal settled scoped (cut_stops_are_cuts height w a t gate) out
  front_of_cut Limit gate out cut = absurd cut
  front_of_cut (World item g) gate out cut = absurd cut
  front_of_cut (Removal clause) gate out cut = absurd cut
  front_of_cut Answer gate out cut = absurd cut
  front_of_cut (Collect number) gate out cut = absurd cut
  front_of_cut (Ball ball) gate out cut = absurd cut
  front_of_cut Empty gate out cut = absurd cut

  pub gate_of_front : (stop : TaskStop) (g : Gate) → IsGateOfStop stop w a t → IsGateFor stop (scope_in_front (items_at_place nodes.rows a)) g → IsItsGate g w a t
  gate_of_front (Cut height) g gate for =
      subst (λ x. IsItsGate x w a t) (sym for.1.1) (gate_out job nodes t w a placed legal settled scoped (cut_stops_are_cuts height w a t gate) for.0 for.1.0)
  gate_of_front (World item at) g gate for = subst (λ x. IsItsGate x w a t) (sym for) gate
  gate_of_front (Removal clause) g gate for = subst (λ x. IsItsGate x w a t) (sym for) gate
  gate_of_front Answer g gate for = subst (λ x. IsItsGate x w a t) (sym for) gate
  gate_of_front Limit g gate for = absurd for
  gate_of_front (Collect number) g gate for = absurd for
  gate_of_front (Ball ball) g gate for = absurd for
  gate_of_front Empty g gate for = absurd for

pub not_frozen : (stop : TaskStop) (front : Option Scope) (g : Gate) → IsGateFor stop front g → is_frozen_gate g ≡ false
not_frozen (Cut height) front g for = ap is_frozen_gate for.1.1
not_frozen (World item at) front g for = ap is_frozen_gate for
not_frozen (Removal clause) front g for = ap is_frozen_gate for
not_frozen Answer front g for = ap is_frozen_gate for
not_frozen Limit front g for = absurd for
not_frozen (Collect number) front g for = absurd for
not_frozen (Ball ball) front g for = absurd for
not_frozen Empty front g for = absurd for
