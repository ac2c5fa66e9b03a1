-- A goal of a task that is taken.
use Rattle.std.proofs.Common.{◌≡◌, ◌⊎◌, inl, inr, ℕ, suc, ◌+◌, ◌<◌, ◌≤◌, Bool, true, false, List, [], ◌∷◌, length, Option, Some, None, IsSomeAnd, Box, refl, sym, ap, ap₂, ◌∙◌, subst, arith}
use Rattle.std.specs.Global.{Global}
use Rattle.std.specs.Prelude.{codes}
use Rattle.std.proofs.lemmas.Bool.{cases_lt}
use Rattle.au_term.specs.Term.{Term, VarTerm, IntTerm, AtomTerm, Compound}
use Rattle.au_term.specs.declared.flat.FlatTerm.{FlatTerm}
use Rattle.au_model.specs.Terms.Each.{Each}
use Rattle.au_model.specs.Terms.Named.{NamedTerm}
use Rattle.run_model.specs.Programs.Bodies.{call_of}
use Rattle.run_model.specs.Goals.Outcomes.{CutToScope, Controls, AskWorld}
use Rattle.run_model.specs.Goals.GoalOutcomes.{outcome_of}
use Rattle.run_model.specs.Machine.Entries.{Entry, PlainEntry}
use Rattle.run_model.specs.Machine.Items.{Item, before, resolve_item}
use Rattle.tree_model.specs.Floors.{node_of}
use Rattle.tree_model.specs.Nodes.{CutGate, WorldGate}
use Rattle.cell_store.specs.StoreView.{StoreView, meaning, text_in}
use Rattle.region_split.specs.ChoicePoints.{Standing, IsMarkOf, by_height}
use Rattle.region_split.specs.Frames.{scoped_item, IsItemIn}
use Rattle.region_split.specs.QueryEnds.{AreEndsOldest}
use Rattle.region_split.specs.Regions.{RegionView, entries_of, IsPositionIn}
use Rattle.region_split.specs.StackOperations.{PutsBefore, item_here}
use Rattle.region_split.specs.declared.choice.ChoicePoint.{ChoicePoint}
use Rattle.region_split.specs.declared.frame.FrameItem.{FrameItem}
use Rattle.region_split.specs.declared.frame.FrameItem.TheVariants as item
use Rattle.region_split.specs.declared.frame.Position.{Position}
use Rattle.region_split.proofs.ItemLemmas.{position_more}
use Rattle.region_control.specs.Ahead.{IsGoalThere, is_goal_item, goal_entry}
use Rattle.region_control.specs.declared.control.GoalPlace.{GoalPlace}
use Rattle.region_control.specs.declared.replies.AfterGoal.{AfterGoal}
use Rattle.region_control.specs.declared.replies.AfterGoal.TheVariants.{At, Failed, Uncaught, AsksWorld}
use Rattle.region_run.specs.Inferences.{item_goal, InfersItem}
use Rattle.region_run.specs.Runs.{AsksWorldNext}
use Rattle.region_run.proofs.RunLemmas.{item_there, item_asks}
use Rattle.region_floor.specs.BareFloors.{goal_entries}
use Rattle.region_floor.specs.RegionRuns.{RegionRun, StandsAfter, StandsAtGate}
use Rattle.task_region.specs.CutGoals.{IsCutGoal, IsCutCall, IsCutItem}
use Rattle.task_region.specs.DeferredItems.{IsDeferredOver}
use Rattle.task_region.specs.EngineSteps.{top_goal, ComesToGoal, StandsBy}
use Rattle.task_region.specs.GoalLoads.{LeavesGoal}
use Rattle.task_region.specs.TaskViews.{TaskView, carried, goal_stack, task_stack}
use Rattle.task_region.specs.TaskStandings.{IsOwnRun, StandsOnRun}
use Rattle.task_region.specs.TaskStops.{SameTask, IsWorldNext}
use Rattle.task_region.specs.TaskRounds.{TakesGoalNext}
use Rattle.task_region.specs.declared.rounds.TaskRound.TheVariants.{GoesOn, Stops}
use Rattle.task_region.specs.declared.running.TaskStop.TheVariants as stop
use Rattle.task_region.proofs.AheadLemmas.{changed_to}
use Rattle.task_region.proofs.CutGoalLemmas.{cuts_are_named, named_cuts_cut}
use Rattle.task_region.proofs.EngineLemmas.{inference_stands, floor_cut_stops}
use Rattle.task_region.proofs.StandingRunLemmas.{outer_marks, own_run_of, floor_under}

-- the goal that an item is
record StandsForGoal (r : RegionView) (i : FrameItem) (g : GoalPlace) : Type 0 where
  goal : Term
  is : item_goal r.store i ≡ Some goal
  entries : (named : List NamedTerm) → goal_entry named r i g ∷ entries_of named r ≡ goal_entries (top_goal named r goal g)

goal_of : (r : RegionView) (i : FrameItem) (g : GoalPlace) → is_goal_item i ≡ true → StandsForGoal r i g
goal_of r (item.Goal value) g e = record { goal = meaning r.store value; is = refl; entries = λ named. refl }
goal_of r (item.Call value) g e = record { goal = call_of (meaning r.store value); is = refl; entries = λ named. refl }
goal_of r item.Cut g e = record { goal = AtomTerm (codes "!"); is = refl; entries = λ named. refl }
goal_of r item.True g e = record { goal = AtomTerm (codes "true"); is = refl; entries = λ named. refl }
goal_of r item.Fail g e = record { goal = AtomTerm (codes "fail"); is = refl; entries = λ named. refl }
goal_of r item.CatchEnd g e = absurd cc
goal_of r (item.Collect value) g e = absurd cc
goal_of r (item.Removal number) g e = absurd cc

-- a goal has no mark
pub no_mark : (choices : List ChoicePoint) (cut : ℕ) (i : FrameItem) → is_goal_item i ≡ true → IsMarkOf choices cut i
no_mark choices cut (item.Goal value) e = tt
no_mark choices cut (item.Call value) e = tt
no_mark choices cut item.Cut e = tt
no_mark choices cut item.True e = tt
no_mark choices cut item.Fail e = tt
no_mark choices cut item.CatchEnd e = absurd cc
no_mark choices cut (item.Collect value) e = absurd cc
no_mark choices cut (item.Removal number) e = absurd cc

pub told_apart : (b : Bool) → b ≡ true → b ≡ false → ⊥
told_apart b e f = absurd (let g : true ≡ false = sym e ∙ f in cc)

-- items before those of an entry
abbrev before_entry : List (Item ℕ) → Entry → Entry
before_entry items (PlainEntry f) = PlainEntry (before items f)
before_entry items e = e

abbrev item_by : StoreView → Standing → FrameItem → ℕ → List (Item ℕ)
item_by st s i cut = resolve_item st.now.bound (by_height s.heights (scoped_item (text_in st) i cut)) ∷ []

pub goal_left : (old new : RegionView) (i : FrameItem) (g : GoalPlace) → IsGoalThere old i g → (p : Position) → PutsBefore old new (item_here old i g.cut) g.cut g.after p → LeavesGoal old new i g p
goal_left old new i g there p put =
    let store = ap (λ (x : RegionView). x.store) put.others in
    let choices = ap (λ (x : RegionView). length x.choices) put.others in
    let scope = there.place.scope in
    let after : IsPositionIn old g.after = position_more old g.cut (length old.choices) g.after scope there.place.after in
    record {
      position = position_more new g.cut (length new.choices) p (omega (arith, choices, scope)) put.position;
      entry = λ named. ap PlainEntry (put.goes_on named);
      entries = λ named. ap (λ (st : Standing). st.entries) (put.stands named);
      there = record {
        goal = there.goal;
        there = subst (λ (st : StoreView). IsItemIn (text_in st) st.now.next i) (sym store) there.there;
        place = record { scope = omega (arith, choices, scope); after = put.keeps.position g.cut g.after (omega arith) there.place.after };
      };
      same = λ named. ap₂ before_entry (ap₂ (λ st s. item_by st s i g.cut) store (put.stands named)) (put.keeps.same named g.after (omega arith) after);
      text = ap (λ (x : RegionView). x.text) put.others;
      floor = ap (λ (x : RegionView). x.store.floor) put.others;
      store = store;
    }

cut_callable : (goal : Term) → IsCutGoal goal → IsCutCall goal
cut_callable (VarTerm n) h = absurd cc
cut_callable (IntTerm z) h = absurd cc
cut_callable (AtomTerm a) h = (refl, h)
cut_callable (Compound f ts) h = (refl, h)

module _ (t : TaskView) (i : FrameItem) (g : GoalPlace) (there : IsGoalThere t.region i g) (deferred : Each (IsDeferredOver t.variables t.floor) t.deferred)
    (ends : AreEndsOldest t.region.choices) (marks : length t.region.store.marks ≡ length t.region.choices) where
  a : StandsForGoal t.region i g
  a = goal_of t.region i g there.goal

  module _ (r : RegionRun) (k : ℕ) (named : List NamedTerm) (own : IsOwnRun r named t) (h : StandsAfter r k (goal_stack named t.deferred t.region i g)) where
    abbrev all : List NamedTerm
    all = carried named t.deferred

    at_goal : StandsAfter r k (goal_entries (top_goal all t.region a.goal g))
    at_goal = subst (StandsAfter r k) (a.entries all) h

    comes : ComesToGoal r k all t.region a.goal g
    comes = record {
      clauses = own.clauses;
      outer = outer_marks r named t own deferred;
      over = floor_under r k all t.region _ ends marks at_goal;
      place = there.place;
      stands = at_goal;
    }

  -- the goal is left where it stood
  module _ (new : RegionView) (p : Position) (l : LeavesGoal t.region new i g p) where
    abbrev left : TaskView
    left = record t { region = new; next = Some p }

    stack_is : (named : List NamedTerm) → task_stack named left ≡ goal_stack named t.deferred t.region i g
    stack_is named = ap₂ (λ (x : Entry) xs. x ∷ xs) (l.entry (carried named t.deferred)) (l.entries (carried named t.deferred))

    on_run : (r : RegionRun) (k : ℕ) (named : List NamedTerm) → IsOwnRun r named t → StandsAfter r k (goal_stack named t.deferred t.region i g) → StandsOnRun r k named left
    on_run r k named own h = record {
      own = own_run_of r named t left (record { text = l.text; start = l.floor; floor = refl; variables = refl; deferred = refl }) own;
      stands = subst (StandsAfter r k) (sym (stack_is named)) h;
    }

    left_same : SameTask t (changed_to t new)
    left_same = record { text = l.text; start = l.floor; floor = refl; variables = refl; deferred = refl }

    pub limit_stops : (more : Bool) → more ≡ false → TakesGoalNext t (changed_to t new) i g more (Stops stop.Limit (Some p))
    limit_stops more e = record {
      stands = λ r k named own h. (on_run r k named own h, (top_goal (carried named t.deferred) t.region a.goal g, stack_is named ∙ a.entries (carried named t.deferred)));
      there = ((l.position, refl, tt), (λ u. e), (λ u. absurd u));
      same = left_same;
    }

    pub cut_stops : (more : Bool) → g.cut < t.floor → IsCutItem t.region.store i → TakesGoalNext t (changed_to t new) i g more (Stops (stop.Cut g.cut) (Some p))
    cut_stops more low cut = record {
      stands = λ r k named own h.
          let call : IsCutCall a.goal = subst (λ o. IsSomeAnd o IsCutCall) a.is cut in
          let is = named_cuts_cut t.region.text.clauses a.goal t.region.store.now.next call.0 call.1 in
          let gate = floor_cut_stops r k (carried named t.deferred) t.region a.goal g (comes r k named own h) is (let e = own.levels in omega (arith, e, low)) in (
            on_run r k named own h,
            low,
            subst (λ st. StandsAtGate r k st (CutGate (node_of r.levels g.cut))) (sym (stack_is named ∙ a.entries (carried named t.deferred))) gate,
          );
      there = ((l.position, refl, tt), (λ u. absurd u), (λ u. absurd u));
      same = left_same;
    }

  -- or it is taken
  module _ (new : RegionView) (after : AfterGoal) (x : InfersItem t.region new i g after) (no_cut : g.cut < t.floor → IsCutItem t.region.store i → ⊥) (text : new.text ≡ t.region.text) (start : new.store.floor ≡ t.region.store.floor) where
    high : (floor : ℕ) → floor ≡ t.floor → (g.cut < t.floor) ⊎ (t.floor ≤ g.cut) → outcome_of t.region.text.clauses a.goal t.region.store.now.next ≡ Controls CutToScope → floor ≤ g.cut
    high floor e (inl lt) is =
        absurd (no_cut lt (subst (λ o. IsSomeAnd o IsCutCall) (sym a.is) (cut_callable a.goal (cuts_are_named t.region.text.clauses a.goal t.region.store.now.next is))))
    high floor e (inr le) is = omega (arith, e, le)

    taken : (r : RegionRun) (k : ℕ) (named : List NamedTerm) → IsOwnRun r named t → StandsAfter r k (goal_stack named t.deferred t.region i g)
        → StandsBy r k (carried named t.deferred) new (top_goal (carried named t.deferred) t.region a.goal g) after
    taken r k named own h =
        inference_stands r k (carried named t.deferred) t.region new a.goal g after (comes r k named own h) (high (length r.levels) own.levels (cases_lt g.cut t.floor)) (x a.goal a.is)

    taken_same : SameTask t (changed_to t new)
    taken_same = record { text = text; start = start; floor = refl; variables = refl; deferred = refl }

    next_run : (r : RegionRun) (k : ℕ) (named : List NamedTerm) (next : Option Position) → IsOwnRun r named t → StandsAfter r (suc k) (task_stack named (record t { region = new; next = next }))
        → StandsOnRun r (k + 1) named (record t { region = new; next = next })
    next_run r k named next own h = record {
      own = own_run_of r named t (record t { region = new; next = next }) (record { text = text; start = start; floor = refl; variables = refl; deferred = refl }) own;
      stands = subst (λ n. StandsAfter r n (task_stack named (record t { region = new; next = next }))) (let e : suc k ≡ k + 1 = omega arith in e) h;
    }

    pub goes_on_at : (p : Position) → after ≡ At p → TakesGoalNext t (changed_to t new) i g true (GoesOn (Some p))
    goes_on_at p e = record {
      stands = λ r k named own h. next_run r k named (Some p) own (subst (StandsBy r k (carried named t.deferred) new (top_goal (carried named t.deferred) t.region a.goal g)) e (taken r k named own h));
      there = (item_there t.region new i g p there.goal (subst (InfersItem t.region new i g) e x), refl);
      same = taken_same;
    }

    pub fails_on : after ≡ Failed → TakesGoalNext t (changed_to t new) i g true (GoesOn None)
    fails_on e = record {
      stands = λ r k named own h. next_run r k named None own (subst (StandsBy r k (carried named t.deferred) new (top_goal (carried named t.deferred) t.region a.goal g)) e (taken r k named own h));
      there = (tt, refl);
      same = taken_same;
    }

    pub ball_falls : (ball : Box FlatTerm Global) → after ≡ Uncaught ball → TakesGoalNext t (changed_to t new) i g true (Stops (stop.Ball ball.value) None)
    ball_falls ball e = record {
      stands = λ r k named own h.
          let b = subst (StandsBy r k (carried named t.deferred) new (top_goal (carried named t.deferred) t.region a.goal g)) e (taken r k named own h) in
          (top_goal (carried named t.deferred) t.region a.goal g, b.0, b.1);
      there = ((tt, refl, tt), (λ u. absurd u), (λ u. refl));
      same = taken_same;
    }

    pub same_region : after ≡ AsksWorld → new ≡ t.region
    same_region e = (item_asks t.region new i g there there.goal (subst (InfersItem t.region new i g) e x)).1

    -- the world is asked where it was left
    asks_left : (last : RegionView) (p : Position) → LeavesGoal t.region last i g p → AsksWorldNext new i g × (new ≡ t.region) → IsWorldNext last (Some p) i g
    asks_left last p l a =
        let asks = subst (λ (y : RegionView). AsksWorldNext y i g) a.1 a.0 in
        let same : t.region ≡ record t.region { text = last.text; store = last.store } = ap₂ (λ x st. record t.region { text = x; store = st }) (sym l.text) (sym l.store) in
        let moved = subst (λ (y : RegionView). (goal : Term) × (asked : Term) × (item_goal y.store i ≡ Some goal) × (outcome_of y.text.clauses goal y.store.now.next ≡ AskWorld asked)) same (asks.goal, asks.asked, asks.is, asks.asks) in
        record {
          asks = record { there = l.there; goal = moved.0; is = moved.2; asked = moved.1; asks = moved.3 };
          entry = λ named. ap (λ (e : Entry). e ∷ []) (l.entry named ∙ sym (l.same named));
        }

    pub world_stops : (more : Bool) → after ≡ AsksWorld → (last : RegionView) (p : Position) → LeavesGoal new last i g p → TakesGoalNext t (changed_to t last) i g more (Stops (stop.World i g) (Some p))
    world_stops more e last p leaves =
        let l = subst (λ (y : RegionView). LeavesGoal y last i g p) (same_region e) leaves in
        let asked = item_asks t.region new i g there there.goal (subst (InfersItem t.region new i g) e x) in
        record {
          stands = λ r k named own h.
              let gate = subst (StandsBy r k (carried named t.deferred) new (top_goal (carried named t.deferred) t.region a.goal g)) e (taken r k named own h) in
              (on_run last p l r k named own h, subst (λ st. StandsAtGate r k st WorldGate) (sym (stack_is last p l named ∙ a.entries (carried named t.deferred))) gate);
          there = ((l.position, refl, asks_left last p l asked), (λ u. absurd u), (λ u. absurd u));
          same = left_same last p l;
        }
