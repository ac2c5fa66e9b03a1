-- What is taken at the front and leaves one entry, or none.
use Rattle.std.proofs.Common.{◌≡◌, ℕ, true, List, [], ◌∷◌, drop, Option, Some, None, refl, sym, ap, ◌∙◌}
use Rattle.std.specs.Prelude.{IsSome, is_some}
use Rattle.run_model.specs.Machine.Entries.{Entry, PlainEntry}
use Rattle.run_model.specs.Machine.Items.{Continuation, with_items}
use Rattle.run_model.specs.Programs.Jobs.{Job}
use Rattle.tree_model.specs.Credits.{credit_of}
use Rattle.tree_model.specs.Effects.{spot_stack}
use Rattle.tree_model.specs.EventViews.{place_view}
use Rattle.tree_model.specs.Floors.{floor_of}
use Rattle.tree_model.specs.FrontGates.{Taken, Continues}
use Rattle.tree_model.specs.LegalTrees.{IsLegalTree}
use Rattle.tree_model.specs.Legality.{taken_at}
use Rattle.tree_model.specs.Levels.{Place, Spot, levels_of}
use Rattle.tree_model.specs.TreeStates.{TreeState}
use Rattle.tree_nodes.specs.Bodies.{Body, Branching}
use Rattle.tree_nodes.specs.Rows.{cell_at, credit_view}
use Rattle.tree_nodes.specs.TreeTables.{NodesView, IsTableOf, IsWayTo}
use Rattle.tree_closing.specs.Closings.{ComesToRest}
use Rattle.tree_closing.specs.declared.way_up.Closing.{Closing}
use Rattle.branch_reading.specs.NumberedReadings.{NumberedTreesAreSettled}
use Rattle.branch_reading.specs.Readings.{reading}
use Rattle.branch_shapes.specs.FloorItems.{ScopedItemsNameLevels}
use Rattle.branch_shapes.specs.FrontReadings.{FrontsAreRead, HoldsAtFront, behind_first}
use Rattle.public_tree.specs.Answering.{AtFront, ClosesAs, GoesOnAs, front_credit}
use Rattle.task_world.specs.FrontSteps.{LeavesBehind, LeavesRest}
use Rattle.task_world.proofs.BranchLemmas.{rest_on}
use Rattle.task_world.proofs.SpotLemmas.{at, cell_there, is_plain, on, plain_below, way}
use Rattle.branch_shapes.proofs.OutLemmas.{spot_out as spot}

-- of two names of a front
same_front : {f g : Continuation ℕ} {es : List Entry} → PlainEntry f ∷ es ≡ PlainEntry g ∷ es → f ≡ g
same_front h = cc

module _ (job : Job) (nodes : NodesView) (t : TreeState) (w : ℕ) (a : Place) (placed : IsTableOf nodes (reading job) t.root) where
  pub is_there : is_some (taken_at w a t) ≡ true → IsSome (cell_at nodes.rows a)
  is_there out = let s = spot (taken_at w a t) out in cell_there job nodes t w a placed s.0 s.1

  module _ (legal : IsLegalTree t) (numbered : NumberedTreesAreSettled) (scoped : ScopedItemsNameLevels) (law : FrontsAreRead) (body : Body)
      (left : LeavesBehind nodes.rows a body) (goes : LeavesRest w a t) where
    holds : (s : Spot) (b : Branching) → taken_at w a t ≡ Some s → IsWayTo nodes.rows (levels_of s) b → HoldsAtFront job t s b
    holds s b taken path =
        let k = goes s taken in
        let plain = plain_below (levels_of s) s.entry k.has.front (let same : spot_stack s ≡ PlainEntry k.has.front ∷ floor_of (levels_of s) = k.has.stack in cc) in
        record {
          on = is_plain job nodes t w a placed s taken legal numbered scoped b path plain.0 plain.1;
          gate = k.gate;
          leaves = λ f h.
              k.leaves
              ∙ ap (λ items. Continues (PlainEntry (with_items (drop 1 items) k.has.front) ∷ [])) (sym k.has.left)
              ∙ ap (λ g. Continues (PlainEntry (behind_first g) ∷ [])) (same_front (sym k.has.stack ∙ h));
        }

    pub goes_on_as : GoesOnAs nodes.rows body w a (reading job) t
    goes_on_as =
        law job nodes.rows body w a t
        (λ s b taken path. (holds s b taken path, rest_on nodes.rows s.level s.above b a body (at job nodes t w a placed s taken) path left))
        (λ s taken. (way job nodes t w a placed s taken, on job nodes t w a placed s taken))

-- what leaves nothing closes with its inference
pub closes_as : (nodes : NodesView) (t : TreeState) (w : ℕ) (a : Place) (closing : Closing)
    → ComesToRest nodes a (credit_of 1) (place_view closing.end) (credit_view closing.credit) closing.beside → AtFront w a (λ s front. front ≡ Continues []) t
    → AtFront w a (λ s front. ClosesAs nodes a closing (front_credit front t.queries)) t
closes_as nodes t w a closing rests front s taken =
    let k = front s taken in
    (k.0, record { credit = credit_of 1; closes = ap (λ (x : Taken). front_credit x t.queries) k.1; rests = rests })
