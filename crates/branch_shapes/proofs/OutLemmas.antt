-- An alternative that is out to a worker, in a tree for which nodes stand.
use Rattle.std.proofs.Common.{◌≡◌, ℕ, Bool, true, [], ◌∷◌, List, map, Option, Some, None, refl, sym, ap, ◌∙◌, subst}
use Rattle.std.specs.Prelude.{◌&&◌, IsSome, is_some}
use Rattle.au_term.specs.Term.{Term}
use Rattle.au_term.proofs.LogicLemmas.{both}
use Rattle.au_model.specs.Terms.Each.{Each}
use Rattle.au_model.specs.Terms.Substitutions.{Substitution}
use Rattle.run_model.specs.Machine.Items.{Item, GoalItem, CatchMark, CollectMark, RemovalItem, resolve_item}
use Rattle.run_model.specs.Machine.Entries.{Entry, EndEntry}
use Rattle.run_model.specs.Programs.Jobs.{Job}
use Rattle.tree_model.specs.LegalTrees.{IsLegalTree}
use Rattle.tree_model.specs.Legality.{is_taken_by, taken_at}
use Rattle.tree_model.specs.Levels.{Level, Place, plug, place_at, same_place, Spot, levels_of, place_of_spot, pending_of}
use Rattle.tree_model.specs.Nodes.{Hold, Ready, TakenBy, Waiting, Dormant, Pending}
use Rattle.tree_model.specs.PendingLists.{way_of}
use Rattle.tree_model.specs.SoundTrees.{IsSound}
use Rattle.tree_model.specs.TreeStates.{TreeState}
use Rattle.tree_model.specs.Ways.{IsOnWay, IsAwake, IsHeldBy}
use Rattle.tree_nodes.specs.Bodies.{Branching}
use Rattle.tree_nodes.specs.Rows.{cell_at, PendingCell}
use Rattle.tree_nodes.specs.TreeTables.{NodesView, IsTableOf, IsWayTo}
use Rattle.tree_nodes.proofs.PlaceLemmas.{taken_out}
use Rattle.tree_nodes.proofs.AddLemmas.{way_to}
use Rattle.tree_nodes.proofs.WalkLemmas.{cell_here}
use Rattle.branch_reading.specs.NumberedReadings.{IsEndOn}
use Rattle.branch_reading.specs.Readings.{entry_if, entry_meant, entry_on, reading}
use Rattle.branch_reading.specs.SettledWays.{is_way_settled}
use Rattle.branch_shapes.specs.FloorItems.{NamesLevels}
use Rattle.interleaving.proofs.AppendLemmas.{found}
use Rattle.interleaving.proofs.ContextLemmas.{taken_out as sound_out}
use Rattle.interleaving.proofs.PluggedLemmas.{IsIn, all_in}
use Rattle.interleaving.proofs.UnchangedPlaceLemmas.{same_place-is}

-- the end of a query reads as one
pub end_read : (job : Job) (way : Branching) → IsEndOn way → (b : Option Term) × (reading job way ≡ EndEntry b)
end_read job [] end = absurd (cc end.1)
end_read job ((b, i) ∷ way) end =
    let here = (b, i) ∷ way in
    (end.0, ap (λ items. entry_meant items (entry_if (is_way_settled here) (entry_on job here))) end.1)

-- bindings leave the nodes that an item names
pub names_back : (levels : List Level) (s : Substitution) (items : List (Item ℕ)) → Each (NamesLevels levels) (map (resolve_item s) items)
    → Each (NamesLevels levels) items
names_back levels s [] h = tt
names_back levels s (GoalItem t n ∷ items) h = (h.0, names_back levels s items h.1)
names_back levels s (CatchMark n ∷ items) h = (h.0, names_back levels s items h.1)
names_back levels s (CollectMark t n ∷ items) h = (h.0, names_back levels s items h.1)
names_back levels s (RemovalItem n ∷ items) h = (h.0, names_back levels s items h.1)

-- who has a task has no entry that sleeps
held_awake : (w : ℕ) (h : Hold) (e : Entry) → is_taken_by w h ≡ true → IsHeldBy h e → IsAwake e
held_awake w (TakenBy v) e k h = h
held_awake w Ready e k h = absurd (cc k)
held_awake w (Waiting g) e k h = absurd (cc k)
held_awake w Dormant e k h = absurd (cc k)

-- where it is, and what it reads as
pub record IsOutAt (job : Job) (nodes : NodesView) (t : TreeState) (w : ℕ) (a : Place) (s : Spot) : Type 0 where
  pub taken : is_taken_by w s.hold ≡ true
  pub at : place_at s.level ≡ a
  pub in_tree : plug (levels_of s) (Pending s.hold s.entry) ≡ t.root
  pub table : IsTableOf nodes (reading job) (plug (levels_of s) (Pending s.hold s.entry))
  pub cell_there : IsSome (cell_at nodes.rows a)
  pub way : Branching
  pub on : IsWayTo nodes.rows (levels_of s) way
  pub reads : s.entry ≡ reading job way

pub out_at : (job : Job) (nodes : NodesView) (t : TreeState) (w : ℕ) (a : Place) (s : Spot) → IsTableOf nodes (reading job) t.root
    → taken_at w a t ≡ Some s → IsOutAt job nodes t w a s
out_at job nodes t w a s placed taken =
    let test : Spot → Bool = λ r. is_taken_by w r.hold && same_place a (place_of_spot r) in
    let there = found (IsIn t.root) test (pending_of t.root) s (all_in t.root) taken in
    let parts = both (is_taken_by w s.hold) (same_place a (place_of_spot s)) there.passes in
    let at = sym (same_place-is a (place_of_spot s) parts.1) in
    let table = subst (IsTableOf nodes (reading job)) (sym there.holds) placed in
    let out = taken_out nodes.rows (reading job) (levels_of s) (Pending s.hold s.entry) table.placed in
    record {
      taken = parts.0;
      at = at;
      in_tree = there.holds;
      table = table;
      cell_there = ap (λ (p : Place). is_some (cell_at nodes.rows p)) (sym at)
          ∙ ap is_some (cell_here nodes (reading job) s.level s.above (Pending s.hold s.entry) table);
      way = out.way;
      on = way_to nodes.rows (reading job) (levels_of s) out.way (PendingCell s.hold) out.around;
      reads = out.inside;
    }

-- in the tree of a legal history, what it names is on its way, and it does not sleep
pub record IsAwakeOn (s : Spot) : Type 0 where
  pub asked : IsOnWay (way_of (levels_of s)) s.entry
  pub awake : IsAwake s.entry

pub awake_at : (job : Job) (nodes : NodesView) (t : TreeState) (w : ℕ) (a : Place) (s : Spot) → IsLegalTree t → IsOutAt job nodes t w a s → IsAwakeOn s
awake_at job nodes t w a s legal out =
    let held = (sound_out (levels_of s) (Pending s.hold s.entry) (subst (IsSound []) (sym out.in_tree) legal.sound.sound)).1 in
    record { asked = held.0; awake = held_awake w s.hold s.entry out.taken held.1 }

pub spot_out : (o : Option Spot) → is_some o ≡ true → (s : Spot) × (o ≡ Some s)
spot_out None out = absurd (cc out)
spot_out (Some s) out = (s, refl)
