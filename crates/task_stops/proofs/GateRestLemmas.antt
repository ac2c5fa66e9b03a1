-- The free steps at the start of a private run leave the gate of its alternative as it is.
use Rattle.std.proofs.Common.{◌≡◌, ℕ, ◌-◌, cond, List, [], ◌∷◌, ◌++◌, map, length, Some, refl, sym, ap, ◌∙◌}
use Rattle.std.specs.Prelude.{nat_lt}
use Rattle.au_term.proofs.LogicLemmas.{less}
use Rattle.au_model.specs.Terms.Each.{Each}
use Rattle.run_model.specs.Programs.Clauses.{Clause}
use Rattle.run_model.specs.Programs.Jobs.{Job}
use Rattle.run_model.specs.Machine.Entries.{Entry, PlainEntry, CatchEntry, FindallEntry, EndEntry, collected}
use Rattle.run_model.specs.Machine.Items.{Item, GoalItem, CatchMark, CollectMark, RemovalItem, Continuation, with_items, without_marks}
use Rattle.region_floor.proofs.FloorSizeLemmas.{floor-size}
use Rattle.region_floor.specs.BareFloors.{IsOuterMark}
use Rattle.region_floor.specs.Deferred.{joined_entry}
use Rattle.region_floor.specs.RegionRuns.{by_heights, MarksAreOuter, StandsAtGate}
use Rattle.tree_model.specs.Floors.{floor_of, with_heights}
use Rattle.tree_model.specs.Gates.{gate_on, item_gate}
use Rattle.tree_model.specs.Levels.{Level}
use Rattle.tree_model.specs.Nodes.{Gate}
use Rattle.tree_model.specs.PrivateRuns.{own_at_rest, own_free_step, own_free_steps, private_run}
use Rattle.tree_model.specs.Ways.{IsAwake}
use Rattle.tree_nodes.specs.Bodies.{Branching}
use Rattle.branch_reading.specs.Readings.{reading}
use Rattle.task_region.specs.TaskLoads.{run_on_branch}

module _ (clauses : List Clause) (v : Level) (up : List Level) (outer : MarksAreOuter) where
  abbrev levels : List Level
  levels = v ∷ up

  abbrev floor : List Entry
  floor = floor_of levels

  -- a result for a findall of the floor is left standing
  items_rest : (is : List (Item ℕ)) (f : Continuation ℕ) → Each (IsOuterMark (length levels)) is
      → gate_on clauses levels (own_free_step (without_marks is) f [] floor (own_free_steps floor 0) ++ floor) ≡ item_gate clauses levels (without_marks is) f floor
  items_rest [] f o = refl
  items_rest (GoalItem t h ∷ is) f o = refl
  items_rest (CatchMark h ∷ is) f o = items_rest is f o.1
  items_rest (RemovalItem n ∷ is) f o = refl
  items_rest (CollectMark t h ∷ is) f o =
      ap (λ b. gate_on clauses levels (cond b (PlainEntry (with_items (CollectMark t h ∷ is) f) ∷ [])
      (own_free_steps floor 0 (collected (h - length floor) t [])) ++ floor))
      (ap (nat_lt h) (floor-size levels) ∙ less h (length levels) o.0)

  entry_rests : (e : Entry) → IsAwake e
      → gate_on clauses levels (own_at_rest floor (with_heights levels e ∷ []) ++ floor) ≡ gate_on clauses levels (with_heights levels e ∷ floor)
  entry_rests (PlainEntry f) awake = items_rest (by_heights levels f).items (by_heights levels f) (outer clauses v up [] f)
  entry_rests (EndEntry b) awake = refl
  entry_rests (CatchEntry c r f) awake = absurd awake
  entry_rests (FindallEntry results l f) awake = absurd awake

  -- so a run that stands at a gate at its start is at that of its alternative
  pub gate_at_start : (job : Job) (way : Branching) (stack : List Entry) (g : Gate) → IsAwake (reading job way)
      → StandsAtGate (run_on_branch clauses levels job way) 0 stack g → gate_on clauses levels (with_heights levels (reading job way) ∷ floor) ≡ Some g
  unfolding private_run
  gate_at_start job way stack g awake st =
      let d = (run_on_branch clauses levels job way).deferred in
      let runs : Some (own_at_rest floor (with_heights levels (reading job way) ∷ [])) ≡ Some (map (joined_entry d) st.own) = st.run in
      let same : own_at_rest floor (with_heights levels (reading job way) ∷ []) ≡ map (joined_entry d) st.own = cc runs in
      sym (entry_rests (reading job way) awake) ∙ (ap (λ es. gate_on clauses levels (es ++ floor)) same ∙ st.gate_is)
