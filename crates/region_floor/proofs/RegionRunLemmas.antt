-- A region's stack stands for the private run after each inference, and tells where the run stops.
use Rattle.std.proofs.Common.{◌≡◌, ℕ, zero, suc, ◌+◌, ◌-◌, ◌<◌, ◌≤◌, ◌==◌, Bool, true, false, cond, List, [], ◌∷◌, ◌++◌, map, length, Option, Some, None, refl, sym, ap, ◌∙◌, subst, arith}
use Rattle.au_term.specs.Term.{Term}
use Rattle.au_model.specs.Terms.Each.{Each}
use Rattle.au_model.specs.Terms.Substitutions.{Substitution, resolve}
use Rattle.run_model.specs.Goals.Outcomes.{Solution, Solutions, Ball, HaltNumber, ControlForm, CutToScope, Outcome, Replies, Controls, AskWorld}
use Rattle.run_model.specs.Machine.Items.{Item, GoalItem, CatchMark, CollectMark, RemovalItem, Continuation, with_items, without_marks, goals_at, before, resolve_item, resolve_named, resolve_continuation}
use Rattle.run_model.specs.Machine.Entries.{Entry, PlainEntry, EndEntry}
use Rattle.run_model.specs.Machine.FreeSteps.{take_free_steps}
use Rattle.run_model.specs.Machine.Heights.{after_reply, after_control}
use Rattle.tree_model.specs.Nodes.{Gate, BallGate, CutGate, WorldGate}
use Rattle.tree_model.specs.Levels.{Level}
use Rattle.tree_model.specs.Floors.{renamed_item, height_of, node_of}
use Rattle.tree_model.specs.Gates.{ball_scope, control_gate, item_gate, gate_on}
use Rattle.tree_model.specs.Legality.{gives_result}
use Rattle.region_floor.specs.Deferred.{deferred_now, joined_items, joined_continuation, joined_entry, deferring}
use Rattle.region_floor.specs.BareFloors.{bare_floor, AreOwn, IsOuterMark, TopGoal, goal_entries, bare_stack, true_stack, true_rest, RestsPrivately, InfersPrivately}
use Rattle.region_floor.specs.PrivateLaws.{HasOutcome}
use Rattle.region_floor.specs.GateLaws.{deferred_entries, HasDeferred}
use Rattle.region_floor.specs.RegionRuns.{RegionRun, run_after, StandsAfter, StandsAtGate, ComesToResult, RegionStarts, TakesGoal, AreOuter}
use Rattle.region_floor.specs.RegionRuns.{FallsAt, TakesDeferred, EntriesByHeights, MarksAreOuter, NoBallIsLeft}
use Rattle.region_floor.proofs.OwnRestLemmas.{rests_privately}
use Rattle.region_floor.proofs.OwnGoalLemmas.{controls_are_private, solutions_are_private}
use Rattle.region_floor.proofs.OwnBallLemmas.{balls_are_private, balls_are_gates}
use Rattle.region_floor.proofs.GateTopLemmas.{world_goals_are_gates, halts_are_gates, cuts_are_gates, goals_load, catch_marks_skip, results_are_given, answers_are_gates, answers_rest, removals_are_gates, removals_rest}
use Rattle.region_floor.proofs.RunLemmas.{run_starts, run_goes_on, run_ends, tops_are_own, ends_are_bare, nothing_is_bare}

pub region_starts : RegionStarts
region_starts clauses levels s f = record {
  own = PlainEntry (resolve_continuation s (deferring f)) ∷ [];
  are_own = (refl, tt);
  entries = refl;
  run = run_starts clauses levels s f;
}

module _ (r : RegionRun) (k : ℕ) where
  -- the same run by a stack that rests as another one does
  rested : (own stack : List Entry) → run_after r k ≡ Some (true_rest r.deferred r.levels own) → RestsPrivately r.deferred r.levels own stack
      → StandsAfter r k stack
  rested own stack e s = record { own = s.left; are_own = s.are_own; entries = s.entries; run = e ∙ ap Some s.rest }

  pub free_steps : (stack : List Entry) → StandsAfter r k stack → StandsAfter r k (take_free_steps stack)
  free_steps stack h =
      let s = rests_privately r.deferred r.levels h.own h.are_own in
      record {
        own = s.left;
        are_own = s.are_own;
        entries = ap take_free_steps h.entries ∙ s.entries;
        run = h.run ∙ ap Some s.rest;
      }

  -- a plain entry on top is an own one
  record IsTop (f : Continuation ℕ) (es : List Entry) : Type 0 where
    pub below : List Entry
    pub are_own : AreOwn (length r.levels) (PlainEntry f ∷ below)
    pub entries : es ≡ bare_stack r.levels below
    pub run : run_after r k ≡ Some (true_rest r.deferred r.levels (PlainEntry f ∷ below))

  on_top : (f : Continuation ℕ) (es : List Entry) → StandsAfter r k (PlainEntry f ∷ es) → IsTop f es
  on_top f es h =
      let top = tops_are_own r.levels h.own f es (sym h.entries) in
      record {
        below = top.below;
        are_own = subst (AreOwn (length r.levels)) top.own_is h.are_own;
        entries = top.entries;
        run = h.run ∙ ap (λ l. Some (true_rest r.deferred r.levels l)) top.own_is;
      }

  -- a goal on top
  module _ (t : TopGoal) (o : Outcome) (h : TakesGoal r k t o) where
    abbrev first : Continuation ℕ
    first = before (GoalItem t.goal t.height ∷ []) t.after

    top : IsTop first t.below
    top = on_top first t.below h.stands

    abbrev own_goal : TopGoal
    own_goal = record { goal = t.goal; height = t.height; after = t.after; below = top.below }

    has : HasOutcome r.clauses r.levels own_goal o
    has = record { are_own = top.are_own; outcome = h.outcome }

    next : (bare stack : List Entry) → stack ≡ bare → InfersPrivately r.clauses r.deferred r.levels (goal_entries own_goal) bare
        → StandsAfter r (suc k) stack
    next bare stack e i = record {
      own = i.left;
      are_own = i.are_own;
      entries = e ∙ i.entries;
      run = run_goes_on r.clauses r.deferred r.levels r.entry k own_goal bare top.run i;
    }

    stops : (gate : Gate) → gate_on r.clauses r.levels (true_stack r.deferred r.levels (goal_entries own_goal)) ≡ Some gate
        → StandsAtGate r k (goal_entries t) gate
    stops gate g = record {
      own = goal_entries own_goal;
      are_own = top.are_own;
      entries = ap (λ l. PlainEntry first ∷ l) top.entries;
      run = top.run;
      gate_is = g;
    }

  pub control_stands : (t : TopGoal) (form : ControlForm) → TakesGoal r k t (Controls form) → control_gate r.levels form t.height ≡ None
      → StandsAfter r (suc k) (after_control form t.height t.after t.below)
  control_stands t form h g =
      let x = own_goal t (Controls form) h in
      next t (Controls form) h (after_control form t.height t.after (bare_stack r.levels x.below)) (after_control form t.height t.after t.below)
      (ap (after_control form t.height t.after) (top t (Controls form) h).entries)
      (controls_are_private r.clauses r.deferred r.levels x form (has t (Controls form) h) g)

  pub solutions_stand : (t : TopGoal) (ss : List Solution) → TakesGoal r k t (Replies (Solutions ss))
      → StandsAfter r (suc k) (after_reply (Solutions ss) t.after t.below)
  solutions_stand t ss h =
      let o = Replies (Solutions ss) in
      let x = own_goal t o h in
      next t o h (after_reply (Solutions ss) t.after (bare_stack r.levels x.below)) (after_reply (Solutions ss) t.after t.below)
      (ap (after_reply (Solutions ss) t.after) (top t o h).entries)
      (solutions_are_private r.clauses r.deferred r.levels x ss (has t o h))

  -- over the own entries the ball is the same
  thrown : (t : TopGoal) (b : Term) (h : TakesGoal r k t (Replies (Ball b))) (st : List Entry) → after_reply (Ball b) t.after t.below ≡ st
      → after_reply (Ball b) t.after (bare_stack r.levels (own_goal t (Replies (Ball b)) h).below) ≡ st
  thrown t b h st e = sym (ap (after_reply (Ball b) t.after) (top t (Replies (Ball b)) h).entries) ∙ e

  pub ball_stands : (t : TopGoal) (b : Term) → AreOuter r → TakesGoal r k t (Replies (Ball b)) → (f : Continuation ℕ) (es : List Entry)
      → after_reply (Ball b) t.after t.below ≡ PlainEntry f ∷ es → StandsAfter r (suc k) (PlainEntry f ∷ es)
  ball_stands t b outer h f es e =
      let o = Replies (Ball b) in
      next t o h (PlainEntry f ∷ es) (PlainEntry f ∷ es) refl
      (balls_are_private r.clauses r.deferred r.levels (own_goal t o h) b (record { outcome = has t o h; outer = outer }) f es
      (thrown t b h (PlainEntry f ∷ es) e))

  pub ball_stops : (t : TopGoal) (b : Term) → AreOuter r → TakesGoal r k t (Replies (Ball b)) → (left : Option Term)
      → after_reply (Ball b) t.after t.below ≡ EndEntry left ∷ [] → FallsAt r k t b left
  ball_stops t b outer h left e =
      let o = Replies (Ball b) in
      let x = own_goal t o h in
      let g = balls_are_gates r.clauses r.deferred r.levels x b (record { outcome = has t o h; outer = outer }) left
      (thrown t b h (EndEntry left ∷ []) e) in
      let scope = ball_scope r.levels (after_reply (Ball b) (joined_continuation r.deferred t.after) (true_stack r.deferred r.levels x.below)) in
      record { outcome = h.outcome; ball = g.ball; scope = scope; stops = stops t o h (BallGate scope) g.gate }

  pub world_stops : (t : TopGoal) (goal : Term) → TakesGoal r k t (AskWorld goal) → StandsAtGate r k (goal_entries t) WorldGate
  world_stops t goal h =
      stops t (AskWorld goal) h WorldGate (world_goals_are_gates r.clauses r.deferred r.levels (own_goal t (AskWorld goal) h) goal h.outcome)

  pub halt_stops : (t : TopGoal) (n : ℕ) → TakesGoal r k t (Replies (HaltNumber n)) → StandsAtGate r k (goal_entries t) WorldGate
  halt_stops t n h =
      let o = Replies (HaltNumber n) in
      stops t o h WorldGate (halts_are_gates r.clauses r.deferred r.levels (own_goal t o h) n h.outcome)

  pub cut_stops : (t : TopGoal) → TakesGoal r k t (Controls CutToScope) → t.height < length r.levels
      → StandsAtGate r k (goal_entries t) (CutGate (node_of r.levels t.height))
  cut_stops t h l =
      let o = Controls CutToScope in
      stops t o h (CutGate (node_of r.levels t.height)) (cuts_are_gates r.clauses r.deferred r.levels (own_goal t o h) h.outcome l)

  -- what is deferred on top
  module _ (n : ℕ) (f : Continuation ℕ) (es : List Entry) (items : List (Item ℕ)) (h : TakesDeferred r k n f es items) where
    abbrev standing : Continuation ℕ
    standing = before (RemovalItem n ∷ []) f

    deferred_top : IsTop standing es
    deferred_top = on_top standing es h.stands

    has_deferred : HasDeferred r.deferred r.levels n f deferred_top.below items
    has_deferred = record { are_own = deferred_top.are_own; deferred = h.deferred }

    deferred_stops : (gate : Gate)
        → true_rest r.deferred r.levels (deferred_entries n f deferred_top.below)
        ≡ map (joined_entry r.deferred) (deferred_entries n f deferred_top.below)
        → gate_on r.clauses r.levels (true_stack r.deferred r.levels (deferred_entries n f deferred_top.below)) ≡ Some gate
        → StandsAtGate r k (deferred_entries n f es) gate
    deferred_stops gate e g = record {
      own = deferred_entries n f deferred_top.below;
      are_own = deferred_top.are_own;
      entries = ap (λ l. PlainEntry standing ∷ l) deferred_top.entries;
      run = deferred_top.run ∙ ap Some e;
      gate_is = g;
    }

  pub goals_loaded : (n h : ℕ) (goals : List Term) (f : Continuation ℕ) (es : List Entry) (items : List (Item ℕ))
      → TakesDeferred r k n f es (goals_at h goals ++ items)
      → StandsAfter r k (PlainEntry (before (goals_at h goals ++ RemovalItem (n + length goals) ∷ []) f) ∷ es)
  goals_loaded n h goals f es items t =
      let p = deferred_top n f es (goals_at h goals ++ items) t in
      let load : Continuation ℕ = before (goals_at h goals ++ RemovalItem (n + length goals) ∷ []) f in
      subst (λ l. StandsAfter r k (PlainEntry load ∷ l)) (sym p.entries)
      (rested (deferred_entries n f p.below) (bare_stack r.levels (PlainEntry load ∷ p.below)) p.run
      (goals_load r.deferred r.levels n h goals f p.below items (has_deferred n f es (goals_at h goals ++ items) t)))

  pub mark_skipped : (n h : ℕ) (f : Continuation ℕ) (es : List Entry) (items : List (Item ℕ)) → TakesDeferred r k n f es (CatchMark h ∷ items)
      → StandsAfter r k (deferred_entries (suc n) f es)
  mark_skipped n h f es items t =
      let p = deferred_top n f es (CatchMark h ∷ items) t in
      subst (λ l. StandsAfter r k (deferred_entries (suc n) f l)) (sym p.entries)
      (rested (deferred_entries n f p.below) (bare_stack r.levels (deferred_entries (suc n) f p.below)) p.run
      (catch_marks_skip r.deferred r.levels n h f p.below items (has_deferred n f es (CatchMark h ∷ items) t)))

  pub answer_stops : (n : ℕ) (f : Continuation ℕ) (es : List Entry) → TakesDeferred r k n f es [] → StandsAtGate r k (deferred_entries n f es) WorldGate
  answer_stops n f es t =
      let below = (deferred_top n f es [] t).below in
      deferred_stops n f es [] t WorldGate (answers_rest r.deferred r.levels n f below (has_deferred n f es [] t))
      (answers_are_gates r.clauses r.deferred r.levels n f below (has_deferred n f es [] t))

  pub removal_stops : (n number : ℕ) (f : Continuation ℕ) (es : List Entry) (items : List (Item ℕ))
      → TakesDeferred r k n f es (RemovalItem number ∷ items) → StandsAtGate r k (deferred_entries n f es) WorldGate
  removal_stops n number f es items t =
      let all = RemovalItem number ∷ items in
      let below = (deferred_top n f es all t).below in
      deferred_stops n f es all t WorldGate (removals_rest r.deferred r.levels n number f below items (has_deferred n f es all t))
      (removals_are_gates r.clauses r.deferred r.levels n number f below items (has_deferred n f es all t))

  pub result_comes : (n h : ℕ) (result : Term) (f : Continuation ℕ) (es : List Entry) (items : List (Item ℕ))
      → TakesDeferred r k n f es (CollectMark result h ∷ items) → h < length r.levels → ComesToResult r k (deferred_entries n f es)
  result_comes n h result f es items t l =
      let all = CollectMark result h ∷ items in
      let p = deferred_top n f es all t in
      let g = results_are_given r.clauses r.deferred r.levels n h result f p.below items (has_deferred n f es all t) l in
      record {
        own = deferred_entries n f p.below;
        are_own = p.are_own;
        entries = ap (λ j. PlainEntry (before (RemovalItem n ∷ []) f) ∷ j) p.entries;
        run = p.run ∙ ap Some g.rest;
        last = run_ends r.clauses r.levels r.entry k (map (joined_entry r.deferred) (deferred_entries n f p.below)) (p.run ∙ ap Some g.rest) g.last;
        gives = λ one. ap gives_result (sym g.rest) ∙ g.gives (single p.below one);
      }
    where
      single : (l : List Entry) → suc (length l) ≡ 1 → l ≡ []
      single [] e = refl
      single (x ∷ l) e = absurd (omega (arith, e))

  -- no item on top
  pub nothing_stops : (f : Continuation ℕ) (es : List Entry) → f.items ≡ [] → StandsAfter r k (PlainEntry f ∷ es)
      → StandsAtGate r k (PlainEntry f ∷ es) WorldGate
  nothing_stops f es e h =
      let p = on_top f es h in
      let d = r.deferred in
      record {
        own = PlainEntry f ∷ p.below;
        are_own = p.are_own;
        entries = ap (λ l. PlainEntry f ∷ l) p.entries;
        run = p.run ∙ ap Some (rests p.below);
        gate_is = ap (λ l. item_gate r.clauses r.levels (without_marks (joined_items (deferred_now d f) l)) (joined_continuation d f) (true_stack d r.levels p.below)) e;
      }
    where
      rests : (below : List Entry) → true_rest r.deferred r.levels (PlainEntry f ∷ below) ≡ map (joined_entry r.deferred) (PlainEntry f ∷ below)
      rests below =
          let d = r.deferred in
          ap (λ l. true_rest d r.levels (PlainEntry (with_items l f) ∷ below)) e
          ∙ sym (ap (λ l. map (joined_entry d) (PlainEntry (with_items l f) ∷ below)) e)

  pub end_is_empty : (b : Option Term) (es : List Entry) → StandsAfter r k (EndEntry b ∷ es) → run_after r k ≡ Some []
  end_is_empty b es h =
      h.run ∙ ap (λ l. Some (true_rest r.deferred r.levels l)) (ends_are_bare r.levels h.own b es h.are_own (sym h.entries))

  pub none_is_empty : StandsAfter r k [] → run_after r k ≡ Some []
  none_is_empty h = h.run ∙ ap (λ l. Some (true_rest r.deferred r.levels l)) (nothing_is_bare r.levels h.own (sym h.entries))

-- the ends of a bare floor have no ball
no_ball : (n : ℕ) (b : Term) (es : List Entry) → bare_floor n ≡ EndEntry (Some b) ∷ es → ⊥
no_ball zero b es e = cc
no_ball (suc n) b es e = cc

pub no_ball_is_left : NoBallIsLeft
no_ball_is_left r k b es h =
    let none = ends_are_bare r.levels h.own (Some b) es h.are_own (sym h.entries) in
    no_ball (length r.levels) b es (ap (bare_stack r.levels) (sym none) ∙ sym h.entries)

-- marks by heights
height-low : (levels : List Level) (s : ℕ) → height_of levels s ≤ length levels
height-low [] s = omega arith
height-low (v ∷ up) s = go (v.number == s) (height-low up s)
  where
    go : (b : Bool) → height_of up s ≤ length up → cond b (suc (length up)) (height_of up s) ≤ suc (length up)
    go true h = omega arith
    go false h = omega arith

items_outer : (v : Level) (up : List Level) (items : List (Item ℕ))
    → Each (IsOuterMark (length (v ∷ up))) (map (renamed_item (height_of (v ∷ up)) (λ s. height_of (v ∷ up) s - 1)) items)
items_outer v up [] = tt
items_outer v up (GoalItem t s ∷ items) = (tt, items_outer v up items)
items_outer v up (CatchMark s ∷ items) = (omega (arith, height-low (v ∷ up) s), items_outer v up items)
items_outer v up (CollectMark t s ∷ items) = (omega (arith, height-low (v ∷ up) s), items_outer v up items)
items_outer v up (RemovalItem n ∷ items) = (tt, items_outer v up items)

pub marks_are_outer : MarksAreOuter
marks_are_outer clauses v up s f = items_outer v up f.items

renamed_resolved : (scope mark : ℕ → ℕ) (s : Substitution) (items : List (Item ℕ))
    → map (renamed_item scope mark) (map (resolve_item s) items) ≡ map (resolve_item s) (map (renamed_item scope mark) items)
renamed_resolved scope mark s [] = refl
renamed_resolved scope mark s (GoalItem t h ∷ items) = ap (λ l. GoalItem (resolve s t) (scope h) ∷ l) (renamed_resolved scope mark s items)
renamed_resolved scope mark s (CatchMark h ∷ items) = ap (λ l. CatchMark (mark h) ∷ l) (renamed_resolved scope mark s items)
renamed_resolved scope mark s (CollectMark t h ∷ items) = ap (λ l. CollectMark (resolve s t) (mark h) ∷ l) (renamed_resolved scope mark s items)
renamed_resolved scope mark s (RemovalItem n ∷ items) = ap (λ l. RemovalItem n ∷ l) (renamed_resolved scope mark s items)

pub entries_by_heights : EntriesByHeights
entries_by_heights levels s f =
    ap (λ l. PlainEntry (let c : Continuation ℕ = record { items = l; named = map (resolve_named s) f.named; next = f.next } in c))
    (renamed_resolved (height_of levels) (λ n. height_of levels n - 1) s f.items)
