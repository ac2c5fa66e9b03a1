-- An alternative that is out, in the tree of a legal history, whose entry is a plain one.
use Rattle.std.proofs.Common.{◌≡◌, ◌⊎◌, inl, inr, ℕ, true, List, Some, refl, sym, ◌∙◌, subst}
use Rattle.std.specs.Prelude.{IsSome}
use Rattle.run_model.specs.Machine.Items.{Continuation}
use Rattle.run_model.specs.Machine.Entries.{Entry, PlainEntry, CatchEntry, FindallEntry, EndEntry}
use Rattle.run_model.specs.Programs.Jobs.{Job}
use Rattle.tree_model.specs.Floors.{with_heights}
use Rattle.tree_model.specs.LegalTrees.{IsLegalTree}
use Rattle.tree_model.specs.Legality.{taken_at}
use Rattle.tree_model.specs.Levels.{Level, Place, plug, place_at, Spot, levels_of}
use Rattle.tree_model.specs.Nodes.{Pending}
use Rattle.tree_model.specs.PendingLists.{way_of}
use Rattle.tree_model.specs.TreeStates.{TreeState}
use Rattle.tree_model.specs.Ways.{AreScoped, IsAwake, IsOnWay}
use Rattle.tree_nodes.specs.Bodies.{Branching}
use Rattle.tree_nodes.specs.Rows.{cell_at}
use Rattle.tree_nodes.specs.TreeTables.{NodesView, IsTableOf, IsWayTo}
use Rattle.branch_reading.specs.BranchSegments.{segments_on, bound_by}
use Rattle.branch_reading.specs.NumberedReadings.{IsEndOn, IsSettledReading, NumberedTreesAreSettled}
use Rattle.branch_reading.specs.Readings.{items_meant, or_nothing, reading}
use Rattle.branch_reading.specs.SettledWays.{is_way_settled, items_on}
use Rattle.branch_shapes.specs.FloorItems.{ScopedItemsNameLevels}
use Rattle.branch_shapes.proofs.OutLemmas.{IsOutAt, out_at, awake_at, end_read, names_back}
use Rattle.branch_shapes.specs.CutReadings.{IsPlainOn}
use Rattle.branch_shapes.proofs.PlainReadingLemmas.{bound_continuation, plain_reading}

-- heights leave what kind of entry it is
pub plain_below : (levels : List Level) (e : Entry) (f : Continuation ℕ) → with_heights levels e ≡ PlainEntry f → (g : Continuation ℕ) × (e ≡ PlainEntry g)
plain_below levels (PlainEntry g) f h = (g, refl)
plain_below levels (CatchEntry c r g) f h = absurd cc
plain_below levels (FindallEntry results l g) f h = absurd cc
plain_below levels (EndEntry b) f h = absurd cc

module _ (job : Job) (nodes : NodesView) (t : TreeState) (w : ℕ) (a : Place) (placed : IsTableOf nodes (reading job) t.root) (s : Spot)
    (taken : taken_at w a t ≡ Some s) where
  out : IsOutAt job nodes t w a s
  out = out_at job nodes t w a s placed taken

  pub at : place_at s.level ≡ a
  at = out.at

  pub table : IsTableOf nodes (reading job) (plug (levels_of s) (Pending s.hold s.entry))
  table = out.table

  pub way : Branching
  way = out.way

  pub on : IsWayTo nodes.rows (levels_of s) way
  unfolding way
  on = out.on

  pub reads : s.entry ≡ reading job way
  unfolding way
  reads = out.reads

  pub cell_there : IsSome (cell_at nodes.rows a)
  cell_there = out.cell_there

  pub awake : IsLegalTree t → IsAwake s.entry
  awake legal = (awake_at job nodes t w a s legal out).awake

  module _ (legal : IsLegalTree t) (numbered : NumberedTreesAreSettled) (law : ScopedItemsNameLevels) (b : Branching) (path : IsWayTo nodes.rows (levels_of s) b)
      (f : Continuation ℕ) (plain : s.entry ≡ PlainEntry f) where
    number : IsSettledReading job b s.entry
    number = numbered job nodes t.root placed legal.numbered s.level s.above s.hold s.entry out.in_tree b path

    settled : is_way_settled b ≡ true
    settled = by_case number.settled
      where
        by_case : (is_way_settled b ≡ true) ⊎ IsEndOn b → is_way_settled b ≡ true
        by_case (inl h) = h
        by_case (inr end) = let e = end_read job b end in let wrong : PlainEntry f ≡ EndEntry e.0 = sym plain ∙ number.reads ∙ e.1 in absurd (cc wrong)

    held : IsOnWay (way_of (levels_of s)) s.entry
    held = (awake_at job nodes t w a s legal out).asked

    scoped : AreScoped (way_of (levels_of s)) (bound_continuation job b).items
    scoped =
        subst (λ (g : Continuation ℕ). AreScoped (way_of (levels_of s)) g.items) (sym (plain_reading job b f settled (sym number.reads ∙ plain)))
        (subst (IsOnWay (way_of (levels_of s))) plain held).scoped

    pub is_plain : IsPlainOn job s b
    is_plain = record {
      reads = number.reads;
      settled = settled;
      plain = (f, plain);
      scoped = names_back (levels_of s) (or_nothing (bound_by (segments_on b))) (items_meant (items_on b)) (law (levels_of s) (bound_continuation job b).items scoped);
    }
