-- A world goal, a removal or the end of a query, taken at the front.
use Rattle.std.proofs.Common.{◌≡◌, ℕ, Bool, true, false, cond, List, [], ◌∷◌, length, Option, Some, None, refl, sym, ap, subst}
use Rattle.std.specs.Prelude.{◌&&◌, nat_lt}
use Rattle.au_term.specs.Term.{Term}
use Rattle.run_model.specs.Goals.Worlds.{World, world_step}
use Rattle.run_model.specs.Goals.GoalOutcomes.{outcome_of}
use Rattle.run_model.specs.Machine.Balls.{unwound}
use Rattle.run_model.specs.Goals.Outcomes.{Reply, Solutions, Ball, HaltNumber, GoesOnWith, EitherOf, TestOf, CutToScope, CatchOf, FindallOf}
use Rattle.run_model.specs.Goals.Outcomes.{Outcome, Replies, Controls, AskWorld}
use Rattle.run_model.specs.Machine.Items.{Item, GoalItem, CatchMark, CollectMark, RemovalItem, Continuation, first_mark, without_marks}
use Rattle.run_model.specs.Machine.Entries.{Entry, PlainEntry, CatchEntry, FindallEntry, EndEntry}
use Rattle.tree_model.specs.Nodes.{BallGate, CutGate, Pending}
use Rattle.tree_model.specs.Levels.{Level, Place, Spot, levels_of}
use Rattle.tree_model.specs.Floors.{floor_of, node_of, with_heights}
use Rattle.tree_model.specs.Gates.{ball_scope, is_caught_above, ball_gate, control_gate, goal_gate, item_gate, gate_on}
use Rattle.tree_model.specs.Events.{Answer}
use Rattle.tree_model.specs.TreeStates.{TreeState, leftmost}
use Rattle.tree_model.specs.Legality.{is_world_gate, is_spot_at, taken_at, gate_of, at_spot}
use Rattle.tree_model.specs.Effects.{after_event}
use Rattle.tree_model.specs.PendingLists.{way_of}
use Rattle.tree_model.specs.Ways.{AreScoped, under_query, IsOnWay}
use Rattle.tree_model.specs.SoundTrees.{IsOpen, IsSoundTree}
use Rattle.tree_model.specs.CaughtTrees.{MarksCaught, EntryCaught, IsCaught, IsCaughtTree}
use Rattle.tree_model.specs.Halting.{HaltsBy}
use Rattle.interleaving.specs.HistoryInvariants.{AnswerMoves, OthersMove}
use Rattle.interleaving.proofs.RoundtripLemmas.{by_heights, weaken_from}
use Rattle.interleaving.proofs.GrowingLemmas.{around_path}
use Rattle.interleaving.proofs.OpenSpotLemmas.{placed_at, taken_at_open}
use Rattle.interleaving.proofs.PlacedEntryLemmas.{IsAt, at_spot as known_at, marks_dropped, marks_heights}
use Rattle.interleaving.proofs.GoingLemmas.{going, legal_parts}
use Rattle.interleaving.proofs.SpotsApartLemmas.{taken_first}
use Rattle.interleaving.proofs.ClockLemmas.{IsFirst, leftmost_known}
use Rattle.interleaving.proofs.ListScopeLemmas.{dormant_on}
use Rattle.interleaving.proofs.CaughtContextLemmas.{caught_down}
use Rattle.interleaving.proofs.CaughtEventLemmas.{marks_without}
use Rattle.interleaving.proofs.WorldGoalLemmas.{solutions_move, removal_moves}
use Rattle.interleaving.proofs.QueryEndLemmas.{ends_move}
use Rattle.interleaving.proofs.FrontBallLemmas.{ball_moves}
use Rattle.au_term.proofs.LogicLemmas.{and-right, and-left, false_true}

-- a cut or a ball is no gate of the world
ball_no_world : (levels : List Level) (es : List Entry) → is_world_gate (ball_gate levels es) ≡ true → ⊥
ball_no_world levels es h = go (is_caught_above levels es) h
  where
    go : (b : Bool) → is_world_gate (cond b None (Some (BallGate (ball_scope levels es)))) ≡ true → ⊥
    go true z = false_true z
    go false z = false_true z

cut_no_world : (levels : List Level) (h : ℕ) → is_world_gate (control_gate levels CutToScope h) ≡ true → ⊥
cut_no_world levels h z = go (nat_lt h (length levels)) z
  where
    go : (b : Bool) → is_world_gate (cond b (Some (CutGate (node_of levels h))) None) ≡ true → ⊥
    go true z = false_true z
    go false z = false_true z

module _ (t : TreeState) (w : ℕ) (a : Place) (s : Spot) (e : taken_at w a t ≡ Some s) (answers : ℕ) (i : IsSoundTree t)
    (k : IsCaughtTree t) (running : t.halted ≡ None) (first : IsFirst t s) (j : IsSoundTree (after_event t (Answer w a false)))
    (r : IsCaughtTree (after_event t (Answer w a false)))
    (left : leftmost t ≡ Some s)
    (no_answer : (x : Spot) (f : Continuation ℕ) → leftmost t ≡ Some x → x.entry ≡ PlainEntry f → without_marks f.items ≡ [] → ⊥)
    (no_halt : (x : Spot) (f : Continuation ℕ) (goal : Term) (scope : ℕ) (items : List (Item ℕ)) (n : ℕ) (after : World) → leftmost t
    ≡ Some x → x.entry ≡ PlainEntry f → without_marks f.items ≡ GoalItem goal scope ∷ items
    → HaltsBy t.job.clauses (outcome_of t.job.clauses goal f.next) f.next t.world n after → ⊥) where
  abbrev levels : List Level
  levels = levels_of s

  abbrev Moves : Type 0
  Moves = AnswerMoves t (after_event t (Answer w a false)) answers answers

  module _ (f : Continuation ℕ) (entry : s.entry ≡ PlainEntry f) (asked : under_query (way_of (levels_of s)) ≡ true) where
    world_goal : (goal : Term) (scope : ℕ) (items : List (Item ℕ)) (ask : Term) → without_marks f.items ≡ GoalItem goal scope ∷ items
        → AreScoped (way_of (levels_of s)) items → MarksCaught (dormant_on (levels_of s)) items → outcome_of t.job.clauses goal f.next
        ≡ AskWorld ask
        → (after : World) (reply : Reply) → world_step t.job.clauses ask f.next t.world ≡ (after, reply) → Moves
    world_goal goal scope items ask q c m outcome after (Solutions ss) step = solutions_move t w a s f e entry answers i k running first
        asked goal ask scope items after ss q c outcome step j r
    world_goal goal scope items ask q c m outcome after (Ball b) step = ball_moves t w a s f e entry answers i k running first asked
        goal ask scope items after b q m outcome step j r
    world_goal goal scope items ask q c m outcome after (HaltNumber n) step = absurd
        (no_halt s f goal scope items n after left entry q
        (subst (λ x. HaltsBy t.job.clauses x f.next t.world n after) (sym outcome) step))

    goal_moves : (goal : Term) (scope : ℕ) (items : List (Item ℕ)) → without_marks f.items ≡ GoalItem goal scope ∷ items
        → AreScoped (way_of (levels_of s)) items → MarksCaught (dormant_on (levels_of s)) items → (x : Outcome)
        → outcome_of t.job.clauses goal f.next ≡ x
        → (h : ℕ) (g : Continuation ℕ) → is_world_gate (goal_gate (levels_of s) x h g (floor_of (levels_of s))) ≡ true → Moves
    goal_moves goal scope items q c m (AskWorld ask) outcome h g l = world_goal goal scope items ask q c m outcome _ _ refl
    goal_moves goal scope items q c m (Replies (Solutions ss)) outcome h g l = false_true l
    goal_moves goal scope items q c m (Replies (HaltNumber n)) outcome h g l = absurd
        (no_halt s f goal scope items n t.world left entry q
        (subst (λ x. HaltsBy t.job.clauses x f.next t.world n t.world) (sym outcome) (refl, refl)))
    goal_moves goal scope items q c m (Replies (Ball b)) outcome h g l = absurd
        (ball_no_world levels (unwound b (first_mark g.items) (floor_of levels)) l)
    goal_moves goal scope items q c m (Controls CutToScope) outcome h g l = absurd (cut_no_world levels h l)
    goal_moves goal scope items q c m (Controls (GoesOnWith gs)) outcome h g l = false_true l
    goal_moves goal scope items q c m (Controls (EitherOf gs others)) outcome h g l = false_true l
    goal_moves goal scope items q c m (Controls (TestOf gs thens others)) outcome h g l = false_true l
    goal_moves goal scope items q c m (Controls (CatchOf x catcher recovery)) outcome h g l = false_true l
    goal_moves goal scope items q c m (Controls (FindallOf template x list)) outcome h g l = false_true l

    items_move : (g : Continuation ℕ) → g.next ≡ f.next → (items : List (Item ℕ)) → without_marks f.items ≡ items
        → AreScoped (way_of (levels_of s)) items → MarksCaught (dormant_on (levels_of s)) items
        → is_world_gate (item_gate t.job.clauses (levels_of s) (by_heights (levels_of s) items) g (floor_of (levels_of s))) ≡ true
        → Moves
    items_move g gx [] q c m l = absurd (no_answer s f left entry q)
    items_move g gx (CatchMark n ∷ items) q c m l = false_true l
    items_move g gx (CollectMark x n ∷ items) q c m l = false_true l
    items_move g gx (RemovalItem n ∷ items) q c m l = removal_moves t w a s f e entry answers i k running first asked n items q c j r
    items_move g gx (GoalItem x n ∷ items) q c m l = goal_moves x n items q
        (weaken_from (way_of levels) n items
        (around_path levels IsOpen (placed_at t s i (record { inside = first.inside; opened = first.opened })).around) c.0 c.1) m
        (outcome_of t.job.clauses x g.next) (ap (outcome_of t.job.clauses x) (sym gx)) _ _ l

    plain_moves : AreScoped (way_of (levels_of s)) f.items → MarksCaught (dormant_on (levels_of s)) f.items → IsAt t s
        → is_world_gate (gate_on t.job.clauses (levels_of s) (with_heights (levels_of s) (PlainEntry f) ∷ floor_of (levels_of s)))
        ≡ true → Moves
    plain_moves c m at l =
        let g : Continuation ℕ = record { items = by_heights levels f.items; named = f.named; next = f.next } in
        items_move g refl (without_marks f.items) refl
        (marks_dropped (way_of levels) f.items (around_path levels IsOpen at.placed.around) c)
        (marks_without (dormant_on levels) f.items m)
        (subst (λ is. is_world_gate (item_gate t.job.clauses levels is g (floor_of levels)) ≡ true) (sym (marks_heights levels f.items)) l)

  pub entry_moves : IsAt t s → (x : Entry) → s.entry ≡ x → IsOnWay (way_of (levels_of s)) x → EntryCaught (dormant_on (levels_of s)) x
      → is_world_gate (gate_on t.job.clauses (levels_of s) (with_heights (levels_of s) x ∷ floor_of (levels_of s))) ≡ true → Moves
  entry_moves at (EndEntry b) entry h m l = ends_move t w a s b e entry answers i k running first j r
  entry_moves at (CatchEntry c y f) entry h m l = false_true l
  entry_moves at (FindallEntry results list f) entry h m l = false_true l
  entry_moves at (PlainEntry f) entry h m l = plain_moves f entry h.asked h.scoped m at l

pub others_move : OthersMove
unfolding gate_of
others_move t w a answers i k j r l no_answer no_halt = go (taken_at w a t) refl (legal_parts t (Answer w a false) l).1
    (going t (legal_parts t (Answer w a false) l).0).halted
  where
    go : (o : Option Spot) → taken_at w a t ≡ o → at_spot o (λ s. is_world_gate (gate_of t s) && is_spot_at a (leftmost t)) ≡ true
        → t.halted ≡ None → AnswerMoves t (after_event t (Answer w a false)) answers answers
    go None e x running = false_true x
    go (Some s) e x running =
        let at = known_at w a t s i e in
        let o = taken_at_open w a t s e in
        let left = taken_first t w a s i e (and-right (is_world_gate (gate_of t s)) _ x) in
        let caught = subst (λ z. IsCaught (λ n. false) false false z) (sym o.inside) k.caught in
        entry_moves t w a s e answers i k running (leftmost_known t i s left) j r left no_answer no_halt at s.entry refl
        at.placed.entry.0 (caught_down (levels_of s) (Pending s.hold s.entry) caught) (and-left (is_world_gate (gate_of t s)) _ x)
