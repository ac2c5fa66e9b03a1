-- What follows the item that is next of an alternative that is out, by what the nodes on its branch were made from.
use Rattle.std.proofs.Common.{◌≡◌, ℕ, ◌-◌, List, [], ◌∷◌, drop, Some, refl, sym, ap, ◌∙◌}
use Rattle.au_model.specs.Terms.Each.{Each}
use Rattle.au_model.specs.Terms.Substitutions.{Substitution}
use Rattle.clause_compile.specs.declared.item.Item.{Item as BranchItem}
use Rattle.clause_compile.specs.declared.item.Item.TheVariants.{Goal, CatchEnd, Collect, Remove, End}
use Rattle.run_model.specs.Machine.Entries.{Entry, PlainEntry}
use Rattle.run_model.specs.Machine.Items.{Item, Continuation, first_mark, without_marks}
use Rattle.run_model.specs.Programs.Jobs.{Job}
use Rattle.tree_model.specs.Effects.{spot_stack}
use Rattle.tree_model.specs.Floors.{floor_of, height_of, renamed_continuation, with_heights}
use Rattle.tree_model.specs.LegalTrees.{IsLegalTree}
use Rattle.tree_model.specs.Legality.{taken_at}
use Rattle.tree_model.specs.Levels.{Level, Place, Spot, levels_of}
use Rattle.tree_model.specs.TreeStates.{TreeState}
use Rattle.tree_nodes.specs.Bodies.{Branching}
use Rattle.tree_nodes.specs.TreeTables.{NodesView, IsTableOf, IsWayTo}
use Rattle.branch_reading.specs.BranchSegments.{bound_by, next_number, segments_on}
use Rattle.branch_reading.specs.NumberedReadings.{NumberedTreesAreSettled}
use Rattle.branch_reading.specs.Readings.{items_meant, or_nothing, reading}
use Rattle.branch_reading.specs.SettledWays.{items_on}
use Rattle.branch_shapes.specs.FloorItems.{NamesLevels, ScopedItemsNameLevels}
use Rattle.branch_shapes.specs.CutReadings.{IsPlainOn}
use Rattle.branch_shapes.specs.RestBodies.{items_behind}
use Rattle.branch_shapes.proofs.PlainItemLemmas.{behind, high, names_left}
use Rattle.branch_shapes.proofs.PlainReadingLemmas.{bound_continuation, plain_reading}
use Rattle.branch_shapes.proofs.RestReadingLemmas.{items_settled}
use Rattle.task_stops.specs.BranchLandings.{height_of_mark, IsMarkOver}
use Rattle.task_stops.specs.Landings.{innermost_catch}
use Rattle.task_world.specs.FrontItems.{HasLeft}
use Rattle.task_world.proofs.SpotLemmas.{is_plain, plain_below}
use Rattle.task_stops.proofs.SpotBallLemmas.{mark_high}
use Rattle.task_stops.proofs.SpotBallLemmas.{mark_over}

module _ (job : Job) (nodes : NodesView) (t : TreeState) (w : ℕ) (a : Place) (placed : IsTableOf nodes (reading job) t.root) (legal : IsLegalTree t)
    (numbered : NumberedTreesAreSettled) (scoped : ScopedItemsNameLevels) (s : Spot) (taken : taken_at w a t ≡ Some s) (item : Item ℕ) (more : List (Item ℕ))
    (has : HasLeft s (item ∷ more)) (way : Branching) (path : IsWayTo nodes.rows (levels_of s) way) where
  abbrev levels : List Level
  levels = levels_of s

  abbrev bound : Substitution
  bound = or_nothing (bound_by (segments_on way))

  plain : (g : Continuation ℕ) × (s.entry ≡ PlainEntry g)
  plain = plain_below levels s.entry has.front (let same : spot_stack s ≡ PlainEntry has.front ∷ floor_of levels = has.stack in cc)

  pub plain_on : IsPlainOn job s way
  plain_on = is_plain job nodes t w a placed s taken legal numbered scoped way path plain.0 plain.1

  read : bound_continuation job way ≡ plain.0
  read = plain_reading job way plain.0 plain_on.settled (sym plain_on.reads ∙ plain.1)

  abbrev pub front : Continuation ℕ
  front = renamed_continuation (height_of levels) (λ r. height_of levels r - 1) (bound_continuation job way)

  stack : spot_stack s ≡ PlainEntry front ∷ floor_of levels
  stack = ap (λ (e : Entry). with_heights levels e ∷ floor_of levels) (plain.1 ∙ ap PlainEntry (sym read))

  pub front_is : has.front ≡ front
  front_is = let both : PlainEntry has.front ∷ floor_of levels ≡ PlainEntry front ∷ floor_of levels = sym has.stack ∙ stack in cc

  pub more_is : more ≡ high levels bound (items_behind (items_on way))
  more_is =
      sym (ap (drop 1) (ap (λ (f : Continuation ℕ). without_marks f.items) (sym front_is) ∙ has.left))
      ∙ behind levels bound (next_number (segments_on way)) (items_on way) (items_settled way plain_on.settled)

  pub marks_over : IsMarkOver levels (innermost_catch (items_behind (items_on way)))
  marks_over = mark_over levels (items_behind (items_on way)) (names_left levels (items_on way) plain_on.scoped)

  pub first_is : first_mark more ≡ height_of_mark levels (innermost_catch (items_behind (items_on way)))
  first_is = ap first_mark more_is ∙ mark_high levels bound (items_behind (items_on way))
