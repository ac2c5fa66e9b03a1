-- The removal of a clause at the front.
use Rattle.std.proofs.Common.{◌≡◌, ℕ, Bool, true, false, List, [], ◌∷◌, Some, sym, ap, ◌∙◌}
use Rattle.std.specs.Prelude.{is_some}
use Rattle.branch_shapes.proofs.OutLemmas.{spot_out as spot}
use Rattle.run_model.specs.Goals.Worlds.{World}
use Rattle.run_model.specs.Machine.Entries.{PlainEntry}
use Rattle.run_model.specs.Machine.Items.{RemovalItem, Continuation, with_items}
use Rattle.run_model.specs.Programs.Databases.{without_clause}
use Rattle.tree_model.specs.Effects.{spot_stack}
use Rattle.tree_model.specs.Floors.{floor_of}
use Rattle.tree_model.specs.FrontGates.{Taken, Continues, item_at_front, removal_at_front, taken_at_front}
use Rattle.tree_model.specs.Gates.{gate_on, item_gate}
use Rattle.tree_model.specs.Legality.{gate_of, taken_at}
use Rattle.tree_model.specs.Levels.{Level, Place, Spot, levels_of}
use Rattle.tree_model.specs.Nodes.{WorldGate}
use Rattle.tree_model.specs.TreeStates.{TreeState}
use Rattle.public_tree.specs.Answering.{AtFront, is_first_at}
use Rattle.public_tree.specs.PublicTrees.{is_going}
use Rattle.tree_core.specs.Histories.{History, state_of}
use Rattle.region_world.specs.WorldGoals.{RemovesClause}
use Rattle.task_world.specs.FrontItems.{RemovesNext, IsRemovalNext}
use Rattle.task_world.specs.FrontSteps.{GoesOnBehind, IsWorldAfter, LeavesRest}
use Rattle.task_world.proofs.EventLemmas.{is_world_after}

module _ (t : TreeState) (number : ℕ) (s : Spot) (r : RemovesNext number s) where
  abbrev levels : List Level
  levels = levels_of s

  abbrev left : Continuation ℕ
  left = with_items r.behind r.has.front

  pub gate_is : gate_of t s ≡ Some WorldGate
  unfolding gate_of
  gate_is =
      ap (gate_on t.job.clauses levels) r.has.stack
      ∙ ap (λ items. item_gate t.job.clauses levels items r.has.front (floor_of levels)) r.has.left

  taken_is : taken_at_front t.job.clauses (spot_stack s) t.world ≡ removal_at_front (without_clause number t.world.database) left t.world
  taken_is =
      ap (λ es. taken_at_front t.job.clauses es t.world) r.has.stack
      ∙ ap (λ items. item_at_front t.job.clauses items r.has.front (floor_of levels) t.world) r.has.left

  -- where the clause is there
  pub removed : (w : World) (new : World) → w ≡ t.world → RemovesClause number w new true
      → taken_at_front t.job.clauses (spot_stack s) t.world ≡ (new, Continues (PlainEntry left ∷ []))
  removed w new same k =
      taken_is
      ∙ ap (λ (x : World). removal_at_front (without_clause number x.database) left x) (sym same)
      ∙ ap (λ o. removal_at_front o left w) k.1
      ∙ ap (λ (x : World). (let p : World × Taken = (x, Continues (PlainEntry left ∷ [])) in p)) (sym k.2)

  -- where it is gone
  pub gone : (w : World) (new : World) → w ≡ t.world → RemovesClause number w new false
      → taken_at_front t.job.clauses (spot_stack s) t.world ≡ (new, Continues [])
  gone w new same k =
      taken_is
      ∙ ap (λ (x : World). removal_at_front (without_clause number x.database) left x) (sym same)
      ∙ ap (λ o. removal_at_front o left w) k.0
      ∙ ap (λ (x : World). (let p : World × Taken = (x, Continues []) in p)) (sym k.1)

  pub goes_on : (w : World) (new : World) → w ≡ t.world → RemovesClause number w new true → GoesOnBehind t s
  goes_on w new same k = record {
    item = RemovalItem number;
    behind = r.behind;
    has = r.has;
    gate = gate_is;
    leaves = ap (λ (x : World × Taken). x.1) (removed w new same k);
  }

module _ (h : History) (number w : ℕ) (a : Place) (old new : World) (same : old ≡ (state_of h).world) (next : IsRemovalNext number w a (state_of h)) where
  abbrev tree : TreeState
  tree = state_of h

  pub leaves_rest : RemovesClause number old new true → LeavesRest w a tree
  leaves_rest k s taken = goes_on tree number s (next s taken) old new same k

  pub leaves_nothing : RemovesClause number old new false → AtFront w a (λ s front. front ≡ Continues []) tree
  leaves_nothing k s taken =
      let r = next s taken in (gate_is tree number s r, ap (λ (x : World × Taken). x.1) (gone tree number s r old new same k))

  -- either way, the world is the one after the event
  pub world_after : (is_going tree ≡ true) × (is_first_at a tree ≡ true) → is_some (taken_at w a tree) ≡ true → (b : Bool) → RemovesClause number old new b
      → IsWorldAfter h w a new
  world_after may out b k =
      let o = spot (taken_at w a tree) out in
      let r = next o.0 o.1 in
      sym (ap (λ (x : World × Taken). x.0) (by_case b k o.0 r)) ∙ is_world_after h w a o.0 o.1 (gate_is tree number o.0 r) may.0 may.1
    where
      by_case : (c : Bool) → RemovesClause number old new c → (s : Spot) → RemovesNext number s
          → (taken_at_front tree.job.clauses (spot_stack s) tree.world) ≡ (new, (taken_at_front tree.job.clauses (spot_stack s) tree.world).1)
      by_case true k s r = let e = removed tree number s r old new same k in e ∙ ap (λ (x : World × Taken). (let p : World × Taken = (new, x.1) in p)) (sym e)
      by_case false k s r = let e = gone tree number s r old new same k in e ∙ ap (λ (x : World × Taken). (let p : World × Taken = (new, x.1) in p)) (sym e)
