-- What lies ahead of a task.
use Rattle.std.proofs.Common.{◌≡◌, ℕ, ◌≤◌, List, [], ◌∷◌, length, map, Some, None, refl, sym, ap, ◌∙◌, subst, arith}
use Rattle.au_model.specs.Terms.Each.{Each}
use Rattle.au_model.specs.Terms.Named.{NamedTerm}
use Rattle.run_model.specs.Machine.Items.{RemovalItem, Continuation, before, resolve_continuation}
use Rattle.run_model.specs.Machine.Entries.{Entry, PlainEntry}
use Rattle.tree_model.specs.Nodes.{WorldGate}
use Rattle.cell_store.specs.StoreView.{StoreView}
use Rattle.region_split.specs.QueryEnds.{AreEndsOldest}
use Rattle.region_split.specs.Regions.{RegionView, entries_of, continuation_here}
use Rattle.region_split.specs.declared.frame.FrameItem.{FrameItem}
use Rattle.region_split.specs.declared.frame.Position.{Position}
use Rattle.region_control.specs.Ahead.{LiesAhead}
use Rattle.region_control.specs.declared.ahead.Ahead.TheVariants.{Goal, Removal, Answer, QueryDone, AllDone}
use Rattle.region_control.specs.declared.control.GoalPlace.{GoalPlace}
use Rattle.region_floor.specs.RegionRuns.{RegionRun, StandsAfter, StandsAtGate, ComesToResult}
use Rattle.region_floor.proofs.NextNumberLemmas.{next_never_falls}
use Rattle.region_floor.proofs.RegionRunLemmas.{nothing_stops, end_is_empty, none_is_empty}
use Rattle.task_region.specs.BareRegions.{IsOverFloor}
use Rattle.task_region.specs.DeferredItems.{item_of, IsDeferredOver}
use Rattle.task_region.specs.GoalLoads.{LeavesItems, rest_items, ComesToDeferred, TakesUpDeferred}
use Rattle.task_region.specs.TaskViews.{TaskView, carried, position_stack, deferred_stack, goal_stack}
use Rattle.task_region.specs.TaskStandings.{StandsOnRun, IsUnderWay}
use Rattle.task_region.specs.TaskStops.{AreDeferredNext, SameTask}
use Rattle.task_region.specs.TaskRounds.{LooksAhead}
use Rattle.task_region.specs.declared.ahead.TaskAhead.TheVariants as task
use Rattle.task_region.specs.declared.deferred.DeferredItem.{DeferredItem}
use Rattle.task_region.specs.declared.loading.AfterDeferred.{AfterDeferred}
use Rattle.task_region.specs.declared.loading.AfterDeferred.TheVariants as after
use Rattle.task_region.specs.declared.running.TaskStop.TheVariants as stop
use Rattle.task_region.proofs.DeferredLemmas.{rest_left}
use Rattle.task_region.proofs.EngineLemmas.{looking_stands}
use Rattle.task_region.proofs.LoadLemmas.{nothing_is}
use Rattle.task_region.proofs.StandingRunLemmas.{deferred_further, outer_marks, own_run_of, floor_under}

abbrev nothing_in : StoreView → List NamedTerm → Continuation ℕ
nothing_in st named = resolve_continuation st.now.bound (record { items = []; named = named; next = st.now.next })

-- the same task, after its region has changed, and before it is known where it goes on
abbrev pub changed_to : TaskView → RegionView → TaskView
changed_to t r = record t { region = r; next = None }

module _ (t : TaskView) (r1 : RegionView) (text : r1.text ≡ t.region.text) (start : r1.store.floor ≡ t.region.store.floor) where
  same : SameTask t (changed_to t r1)
  same = record { text = text; start = start; floor = refl; variables = refl; deferred = refl }

  pub goal_ahead : (item : FrameItem) (g : GoalPlace) → LiesAhead t.region r1 t.next (Goal item g) → LooksAhead t (changed_to t r1) (task.Goal item g)
  goal_ahead item g l = record {
    stands = λ r k named s. looking_stands r k (carried named t.deferred) t.region r1 t.next (Goal item g) s.stands l;
    there = l.there;
    same = same;
  }

  pub answer_ahead : (p : Position) → LiesAhead t.region r1 t.next (Answer p) → LooksAhead t (changed_to t r1) (task.Stops stop.Answer (Some p))
  answer_ahead p l = record {
    stands = λ r k named s.
        let all = carried named t.deferred in
        let h = looking_stands r k all t.region r1 t.next (Answer p) s.stands l in (
          record { own = own_run_of r named t (record (changed_to t r1) { next = Some p }) (record { text = text; start = start; floor = refl; variables = refl; deferred = refl }) s.own; stands = h },
          nothing_stops r k (continuation_here all r1 p) (entries_of all r1) (ap (λ (f : Continuation ℕ). f.items) (nothing_is r1 p l.there.items all)) h,
        );
    there = ((l.there.position, refl, ([], tt, λ named. ap (λ (f : Continuation ℕ). PlainEntry f ∷ []) (nothing_is r1 p l.there.items named))), (λ e. e), (λ e. e));
    same = same;
  }

  pub end_ahead : LiesAhead t.region r1 t.next QueryDone → LooksAhead t (changed_to t r1) (task.Stops stop.Empty None)
  end_ahead l = record {
    stands = λ r k named s.
        let all = carried named t.deferred in
        end_is_empty r k None (entries_of all r1) (looking_stands r k all t.region r1 t.next QueryDone s.stands l);
    there = ((tt, refl, tt), (λ e. e), (λ e. e));
    same = same;
  }

  pub none_ahead : LiesAhead t.region r1 t.next AllDone → LooksAhead t (changed_to t r1) (task.Stops stop.Empty None)
  none_ahead l = record {
    stands = λ r k named s. none_is_empty r k (looking_stands r k (carried named t.deferred) t.region r1 t.next AllDone s.stands l);
    there = ((tt, refl, tt), (λ e. e), (λ e. e));
    same = same;
  }

-- what was taken up, of the same items
pub takes_of : (xs ys : List DeferredItem) → xs ≡ ys → (old new : RegionView) (number : ℕ) (reached known : AfterDeferred) → reached ≡ known
    → TakesUpDeferred old new (map item_of xs) number reached → TakesUpDeferred old new (map item_of ys) number known
takes_of xs ys e old new number reached known is h =
    subst (TakesUpDeferred old new (map item_of ys) number) is (subst (λ items. TakesUpDeferred old new (map item_of items) number reached) e h)

-- what is deferred comes next
module _ (t : TaskView) (r1 : RegionView) (text : r1.text ≡ t.region.text) (start : r1.store.floor ≡ t.region.store.floor) (number : ℕ) (follows : Position) (l : LiesAhead t.region r1 t.next (Removal number follows))
    (deferred : Each (IsDeferredOver t.variables t.floor) t.deferred) (ends : AreEndsOldest r1.choices) (marks : length r1.store.marks ≡ length r1.choices) where
  module _ (r : RegionRun) (k : ℕ) (named : List NamedTerm) (s : StandsOnRun r k named t) where
    abbrev all : List NamedTerm
    all = carried named t.deferred

    on_top : StandsAfter r k (deferred_stack named t.deferred r1 number follows)
    on_top = looking_stands r k all t.region r1 t.next (Removal number follows) s.stands l

    over : IsOverFloor (length r.levels) all r1
    over = floor_under r k all r1 (before (RemovalItem number ∷ []) (continuation_here all r1 follows)) ends marks on_top

    enough : t.variables ≤ r1.store.now.next
    enough = next_never_falls r k t.variables (before (RemovalItem number ∷ []) (continuation_here all r1 follows)) (entries_of all r1) (outer_marks r named t s.own deferred) s.own.numbers tt on_top

    comes : ComesToDeferred r k named r1 number follows
    comes = record {
      named_are = s.own.named_are;
      over = subst (λ items. IsOverFloor (length r.levels) (carried named items) r1) (sym s.own.items) over;
      scoped =
          subst (Each (IsDeferredOver r1.store.now.next (length r.levels))) (sym s.own.items)
          (deferred_further t.variables t.floor r1.store.now.next (length r.levels) t.deferred enough (let e = s.own.levels in omega (arith, e)) deferred);
      stands = subst (λ items. StandsAfter r k (deferred_stack named items r1 number follows)) (sym s.own.items) on_top;
    }

  pub may_take : IsUnderWay t → Each (IsDeferredOver r1.store.now.next (length r1.choices)) t.deferred
  may_take way =
      let o = way.run in
      let many = (over o.run o.inferences o.named o.stands).many in
      let e = o.stands.own.levels in
      deferred_further t.variables t.floor r1.store.now.next (length r1.choices) t.deferred (enough o.run o.inferences o.named o.stands) (omega (arith, many, e)) deferred

  -- and a goal was loaded
  pub goal_next : (r2 : RegionView) (item : FrameItem) (g : GoalPlace) → TakesUpDeferred r1 r2 t.deferred number (after.Goal item g) → LooksAhead t (changed_to t r2) (task.Goal item g)
  goal_next r2 item g takes = record {
    stands = λ r k named s.
        subst (λ items. StandsAfter r k (goal_stack named items r2 item g)) s.own.items (takes.taken r k named follows s.own.items (comes r k named s));
    there = takes.there;
    same = record { text = takes.text ∙ text; start = takes.floor ∙ start; floor = refl; variables = refl; deferred = refl };
  }

  -- or it is left from a number on
  module _ (n : ℕ) (r2 r3 : RegionView) (p : Position) (leaves : LeavesItems r2 r3 (rest_items n) p) (unchanged : r2 ≡ r1) where
    abbrev left : TaskView
    left = record t { region = r3; next = Some p }

    left_same : SameTask t left
    left_same = record { text = leaves.text ∙ (ap (λ (x : RegionView). x.text) unchanged ∙ text); start = leaves.floor ∙ (ap (λ (x : RegionView). x.store.floor) unchanged ∙ start); floor = refl; variables = refl; deferred = refl }

    module _ (r : RegionRun) (k : ℕ) (named : List NamedTerm) (s : StandsOnRun r k named t) (there : ComesToDeferred r k named r1 n follows) where
      abbrev there_stack : List Entry
      there_stack = deferred_stack named r.deferred.items r1 n follows

      stack_is : position_stack named t.deferred r3 p ≡ there_stack
      stack_is =
          ap (λ items. position_stack named items r3 p) (sym s.own.items)
          ∙ rest_left r k named r1 n follows there r3 p (subst (λ (x : RegionView). LeavesItems x r3 (rest_items n) p) unchanged leaves)

      stands_left : StandsOnRun r k named left
      stands_left = record { own = own_run_of r named t left left_same s.own; stands = subst (StandsAfter r k) (sym stack_is) there.stands }

    pub gate_next : (r : RegionRun) (k : ℕ) (named : List NamedTerm) → StandsOnRun r k named t
        → ComesToDeferred r k named r1 n follows × StandsAtGate r k (deferred_stack named r.deferred.items r1 n follows) WorldGate
        → StandsOnRun r k named left × StandsAtGate r k (position_stack named t.deferred r3 p) WorldGate
    gate_next r k named s h = (stands_left r k named s h.0, subst (λ st. StandsAtGate r k st WorldGate) (sym (stack_is r k named s h.0)) h.1)

    pub rest_next : AreDeferredNext r3 (Some p) (RemovalItem n ∷ [])
    rest_next named =
        ap (λ (e : Entry). e ∷ []) (leaves.entry named)
        ∙ ap (λ (st : StoreView). PlainEntry (before (RemovalItem n ∷ []) (nothing_in st named)) ∷ []) (sym leaves.store)

  pub answer_next : (n : ℕ) (r2 r3 : RegionView) (p : Position) → TakesUpDeferred r1 r2 t.deferred number (after.Answer n) → LeavesItems r2 r3 (rest_items n) p
      → LooksAhead t (changed_to t r3) (task.Stops stop.Answer (Some p))
  answer_next n r2 r3 p takes leaves = record {
    stands = λ r k named s. gate_next n r2 r3 p leaves takes.there.1 r k named s (takes.taken r k named follows s.own.items (comes r k named s));
    there = ((leaves.position, refl, (RemovalItem n ∷ [], takes.there.0, rest_next n r2 r3 p leaves takes.there.1)), (λ e. e), (λ e. e));
    same = record { text = (left_same n r2 r3 p leaves takes.there.1).text; start = (left_same n r2 r3 p leaves takes.there.1).start; floor = refl; variables = refl; deferred = refl };
  }

  pub removal_next : (n clause : ℕ) (r2 r3 : RegionView) (p : Position) → TakesUpDeferred r1 r2 t.deferred number (after.Removal n clause) → LeavesItems r2 r3 (rest_items n) p
      → LooksAhead t (changed_to t r3) (task.Stops (stop.Removal clause) (Some p))
  removal_next n clause r2 r3 p takes leaves = record {
    stands = λ r k named s. gate_next n r2 r3 p leaves takes.there.1 r k named s (takes.taken r k named follows s.own.items (comes r k named s));
    there = ((leaves.position, refl, (n, takes.there.0, rest_next n r2 r3 p leaves takes.there.1)), (λ e. e), (λ e. e));
    same = record { text = (left_same n r2 r3 p leaves takes.there.1).text; start = (left_same n r2 r3 p leaves takes.there.1).start; floor = refl; variables = refl; deferred = refl };
  }

  pub result_next : (n : ℕ) (r2 r3 : RegionView) (p : Position) → TakesUpDeferred r1 r2 t.deferred number (after.Result n) → LeavesItems r2 r3 (rest_items n) p
      → LooksAhead t (changed_to t r3) (task.Stops (stop.Collect n) (Some p))
  result_next n r2 r3 p takes leaves = record {
    stands = λ r k named s.
        let h = takes.taken r k named follows s.own.items (comes r k named s) in (
          stands_left n r2 r3 p leaves takes.there.1 r k named s h.0,
          takes.there.0,
          subst (ComesToResult r k) (sym (stack_is n r2 r3 p leaves takes.there.1 r k named s h.0)) h.1,
        );
    there = ((leaves.position, refl, (takes.there.0, rest_next n r2 r3 p leaves takes.there.1)), (λ e. e), (λ e. e));
    same = record { text = (left_same n r2 r3 p leaves takes.there.1).text; start = (left_same n r2 r3 p leaves takes.there.1).start; floor = refl; variables = refl; deferred = refl };
  }
