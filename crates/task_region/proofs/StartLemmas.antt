-- The start of a task's private run.
use Rattle.std.proofs.Common.{◌≡◌, ℕ, List, [], ◌∷◌, ◌++◌, length, map, replicate, Some, refl, sym, ap, ap₂, ◌∙◌, subst, arith}
use Rattle.std.proofs.lemmas.List.{length-replicate}
use Rattle.au_model.specs.Terms.Named.{NamedTerm}
use Rattle.run_model.specs.Programs.Clauses.{Clause}
use Rattle.run_model.specs.Machine.Items.{Item, RemovalItem, Continuation, resolve_named}
use Rattle.run_model.specs.Machine.Entries.{Entry, PlainEntry}
use Rattle.tree_model.specs.Levels.{Level}
use Rattle.tree_model.specs.Nodes.{QueryNode, none}
use Rattle.cell_store.specs.StoreView.{Moment}
use Rattle.region_split.specs.ChoicePoints.{Standing}
use Rattle.region_split.specs.Regions.{RegionView}
use Rattle.region_split.specs.declared.frame.Position.{Position}
use Rattle.region_floor.specs.BareFloors.{bare_floor}
use Rattle.region_floor.specs.Deferred.{carried_term}
use Rattle.region_floor.specs.RegionRuns.{StandsAfter, run_from}
use Rattle.region_floor.proofs.RegionRunLemmas.{region_starts}
use Rattle.task_region.specs.BareRegions.{LaysFloor}
use Rattle.task_region.specs.GoalLoads.{LeavesItems, rest_items}
use Rattle.task_region.specs.TaskViews.{carried, position_stack}
use Rattle.task_region.specs.TaskStandings.{HasOwnRun}

some_level : Level
some_level = record { number = 0; kind = QueryNode; left = []; spent = 0; right = none }

module _ (old r new : RegionView) (floor : ℕ) (items : List (Item ℕ)) (start : Position) (lays : LaysFloor old r floor) (leaves : LeavesItems r new (rest_items 0) start) where
  -- all deferred, over a floor
  abbrev stack_by : List NamedTerm → Moment → List (Item ℕ) → ℕ → ℕ → List Entry
  stack_by named m deferred next n =
      let f : Continuation ℕ = record { items = RemovalItem 0 ∷ []; named = map (resolve_named m.bound) (named ++ map carried_term deferred); next = next } in
      PlainEntry f ∷ bare_floor n

  stack_is : (named : List NamedTerm) → position_stack named items new start ≡ stack_by named old.store.now items old.store.now.next floor
  stack_is named =
      ap₂ (λ (e : Entry) es. e ∷ es) (leaves.entry (carried named items)) (ap (λ (st : Standing). st.entries) (leaves.stands (carried named items)) ∙ lays.entries (carried named items))
      ∙ ap (λ (m : Moment). stack_by named m items m.next floor) lays.now

  pub stands_at_start : (clauses : List Clause) (levels : List Level) (f : Continuation ℕ) → length levels ≡ floor → f.items ≡ items → f.next ≡ old.store.now.next
      → StandsAfter (run_from clauses levels old.store.now.bound f) 0 (position_stack f.named items new start)
  stands_at_start clauses levels f long deferred next =
      subst (StandsAfter (run_from clauses levels old.store.now.bound f) 0)
      (ap₂ (λ is n. stack_by f.named old.store.now is n (length levels)) deferred next
      ∙ (ap (stack_by f.named old.store.now items old.store.now.next) long ∙ sym (stack_is f.named)))
      (region_starts clauses levels old.store.now.bound f)

  -- so there is a run on which it stands
  pub has_run : HasOwnRun (record { region = new; floor = floor; variables = old.store.now.next; deferred = items; next = Some start })
  has_run =
      let f : Continuation ℕ = record { items = items; named = []; next = old.store.now.next } in
      let long = length-replicate floor some_level in
      record {
        run = run_from new.text.clauses (replicate floor some_level) old.store.now.bound f;
        inferences = 0;
        named = [];
        stands = record {
          own = record { clauses = refl; levels = long; named_are = refl; items = refl; numbers = omega arith };
          stands = stands_at_start new.text.clauses (replicate floor some_level) f long refl refl;
        };
      }
