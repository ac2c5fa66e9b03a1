-- Prunes and answers keep a tree sound.
use Rattle.std.proofs.Common.{◌≡◌, ℕ, Bool, true, false, cond, List, [], ◌∷◌, length, Option, Some, None, refl, sym, subst}
use Rattle.std.specs.Prelude.{nat_lt}
use Rattle.au_term.specs.Term.{Term}
use Rattle.run_model.specs.Programs.Clauses.{Clause}
use Rattle.run_model.specs.Programs.Databases.{Database, without_clause}
use Rattle.run_model.specs.Goals.Worlds.{World, world_step, writes}
use Rattle.run_model.specs.Goals.Outcomes.{Reply, Solutions, Ball, HaltNumber, GoesOnWith, EitherOf, TestOf, CutToScope, CatchOf, FindallOf}
use Rattle.run_model.specs.Goals.Outcomes.{Outcome, Replies, Controls, AskWorld}
use Rattle.run_model.specs.Goals.GoalOutcomes.{outcome_of}
use Rattle.run_model.specs.Machine.Items.{Item, GoalItem, CatchMark, CollectMark, RemovalItem, Continuation, with_items, without_marks}
use Rattle.run_model.specs.Machine.Items.{first_mark}
use Rattle.run_model.specs.Machine.Entries.{Entry, PlainEntry, CatchEntry, FindallEntry, EndEntry}
use Rattle.run_model.specs.Machine.Balls.{unwound}
use Rattle.au_model.specs.Writing.Lines.{answer_line, end_line}
use Rattle.tree_model.specs.Credits.{credit_of}
use Rattle.tree_model.specs.Nodes.{CutGate, BallGate, Pending}
use Rattle.tree_model.specs.Levels.{Level, Place, Spot, levels_of}
use Rattle.tree_model.specs.Floors.{height_of, node_of, with_heights, floor_of, query_node}
use Rattle.tree_model.specs.Gates.{ball_scope, is_caught_above, ball_gate, control_gate, goal_gate, item_gate, gate_on}
use Rattle.tree_model.specs.PrivateRuns.{goal_alone, item_alone, taken_alone}
use Rattle.tree_model.specs.FrontGates.{reply_taken, goal_at_front, removal_at_front, item_at_front, taken_at_front}
use Rattle.tree_model.specs.TreeStates.{TreeState}
use Rattle.tree_model.specs.Legality.{taken_at, gate_of}
use Rattle.tree_model.specs.Effects.{ball_falls, or_none, gate_pruned, front_taken, spot_stack, world_moved, where_some}
use Rattle.tree_model.specs.PendingLists.{Way, way_of}
use Rattle.tree_model.specs.Ways.{in_reach, way_from, AreScoped, under_query, IsAsked, IsOnWay}
use Rattle.tree_model.specs.SoundTrees.{IsOpen, profile, IsSoundTree}
use Rattle.interleaving.proofs.WayLemmas.{reach-on}
use Rattle.interleaving.proofs.RoundtripLemmas.{by_heights, at_heights, node_height, IsPath, weaken_from, weaken_above}
use Rattle.interleaving.proofs.ClosingSoundLemmas.{IsSoundGrown, IsFree}
use Rattle.interleaving.proofs.GrowingLemmas.{around_path}
use Rattle.interleaving.proofs.EntryLemmas.{IsOverFloor, solutions_over, floor_length}
use Rattle.interleaving.proofs.MarkLemmas.{first_mark_on}
use Rattle.interleaving.proofs.BallLemmas.{fallen, IsFalling}
use Rattle.interleaving.proofs.BallStackLemmas.{ball_sound}
use Rattle.interleaving.proofs.OpenSpotLemmas.{IsPlaced, placed_at, taken_at_open, some_sound}
use Rattle.interleaving.proofs.SoundClosingLemmas.{grown_tree, free_at, closed_sound, left_sound, cut_sound, opens_sound, halted_sound}

-- what is known of an alternative whose gate is taken
pub record IsAt (t : TreeState) (s : Spot) : Type 0 where
  pub sound : IsSoundTree t
  pub opened : profile (Pending s.hold s.entry) ≡ IsOpen
  pub placed : IsPlaced s
  pub free : IsFree t.next (levels_of s)

pub marks_dropped : (way : Way) (items : List (Item ℕ)) → IsPath way → AreScoped way items → AreScoped way (without_marks items)
marks_dropped way [] p h = h
marks_dropped way (CatchMark s ∷ items) p h = marks_dropped way items p (weaken_above way s items p h.0 h.1)
marks_dropped way (GoalItem t s ∷ items) p h = h
marks_dropped way (CollectMark t s ∷ items) p h = h
marks_dropped way (RemovalItem number ∷ items) p h = h

pub marks_heights : (levels : List Level) (items : List (Item ℕ)) → by_heights levels (without_marks items)
    ≡ without_marks (by_heights levels items)
marks_heights levels [] = refl
marks_heights levels (CatchMark s ∷ items) = marks_heights levels items
marks_heights levels (GoalItem t s ∷ items) = refl
marks_heights levels (CollectMark t s ∷ items) = refl
marks_heights levels (RemovalItem number ∷ items) = refl

-- a ball
fallen_tree : (t : TreeState) (s : Spot) (es : List Entry) → IsSoundTree t
    → IsSoundGrown (fallen (node_of (levels_of s)) (query_node (levels_of s)) t.next (levels_of s) (credit_of 1) es)
    → IsSoundTree (ball_falls s es t)
fallen_tree t s [] h g = h
fallen_tree t s (PlainEntry f ∷ es) h g = grown_tree (ball_falls s (PlainEntry f ∷ es) t) g
fallen_tree t s (EndEntry b ∷ es) h g = grown_tree (ball_falls s (EndEntry b ∷ es) t) g
fallen_tree t s (CatchEntry c r f ∷ es) h g = grown_tree (ball_falls s (CatchEntry c r f ∷ es) t) g
fallen_tree t s (FindallEntry results l f ∷ es) h g = grown_tree (ball_falls s (FindallEntry results l f ∷ es) t) g

thrown_sound : (t : TreeState) (s : Spot) (ball : Term) (items : List (Item ℕ)) → IsAt t s → IsAsked (way_of (levels_of s)) items
    → IsSoundTree (ball_falls s (unwound ball (first_mark (by_heights (levels_of s) items)) (floor_of (levels_of s))) t)
thrown_sound t s ball items h i =
    let levels = levels_of s in
    let falling : IsFalling (node_of levels) (query_node levels) t.next levels = record
    { names = λ n l. refl; asked = i.asked; query = refl; around = h.placed.around; free = h.free } in
    fallen_tree t s (unwound ball (first_mark (by_heights levels items)) (floor_of levels)) h.sound
    (ball_sound (node_of levels) (query_node levels) t.next ball levels (first_mark (by_heights levels items)) falling
    (first_mark_on levels (way_of levels) items (λ r k. k) i.asked (λ r k. k) i.scoped) (credit_of 1))

-- what is after a goal that is taken
pub rest_asked : (levels : List Level) (n : ℕ) (items : List (Item ℕ)) → IsPath (way_of levels) → under_query (way_of levels) ≡ true
    → in_reach (way_of levels) n ≡ true → AreScoped (way_from (way_of levels) n) items → IsAsked (way_of levels) items
rest_asked levels n items p q r h = record { asked = q; scoped = weaken_from (way_of levels) n items p r h }

-- prunes
pruned_ball : (t : TreeState) (s : Spot) (es : List Entry) → IsAt t s → IsSoundTree (ball_falls s es t)
    → IsSoundTree (gate_pruned s (ball_gate (levels_of s) es) es t)
pruned_ball t s es h k = go (is_caught_above (levels_of s) es)
  where
    go : (b : Bool) → IsSoundTree (gate_pruned s (cond b None (Some (BallGate (ball_scope (levels_of s) es)))) es t)
    go true = h.sound
    go false = k

pruned_cut : (t : TreeState) (s : Spot) (n : ℕ) (f : Continuation ℕ) (es : List Entry) → IsAt t s → in_reach (way_of (levels_of s)) n
    ≡ true → IsOverFloor (levels_of s) (PlainEntry f)
    → IsSoundTree (gate_pruned s (control_gate (levels_of s) CutToScope (height_of (levels_of s) n)) (PlainEntry f ∷ es) t)
pruned_cut t s n f es h r k = go (nat_lt (height_of (levels_of s) n) (length (levels_of s)))
  where
    back : node_of (levels_of s) (height_of (levels_of s) n) ≡ n
    back = node_height (levels_of s) n (reach-on (way_of (levels_of s)) n r)

    go : (b : Bool) → IsSoundTree (gate_pruned s (cond b (Some (CutGate (node_of (levels_of s) (height_of (levels_of s) n)))) None)
        (PlainEntry f ∷ es) t)
    go true = cut_sound t s (node_of (levels_of s) (height_of (levels_of s) n)) (PlainEntry f) es h.placed h.free
        (subst (λ m. in_reach (way_of (levels_of s)) m ≡ true) (sym back) r) k
    go false = h.sound

pruned_goal : (t : TreeState) (s : Spot) (o : Outcome) (n : ℕ) (g : Continuation ℕ) (items : List (Item ℕ)) → IsAt t s
    → in_reach (way_of (levels_of s)) n ≡ true → IsAsked (way_of (levels_of s)) items →
    IsSoundTree (gate_pruned s (goal_gate (levels_of s) o (height_of (levels_of s) n) (with_items (by_heights (levels_of s) items) g)
    (floor_of (levels_of s))) (goal_alone o (height_of (levels_of s) n) (with_items (by_heights (levels_of s) items) g)
    (floor_of (levels_of s))) t)
pruned_goal t s (AskWorld goal) n g items h r i = h.sound
pruned_goal t s (Replies (Solutions ss)) n g items h r i = h.sound
pruned_goal t s (Replies (HaltNumber k)) n g items h r i = h.sound
pruned_goal t s (Replies (Ball b)) n g items h r i = pruned_ball t s _ h (thrown_sound t s b items h i)
pruned_goal t s (Controls CutToScope) n g items h r i = pruned_cut t s n (with_items (by_heights (levels_of s) items) g) _ h r
    (record { asked = i.asked; scoped = at_heights (levels_of s) items i.scoped })
pruned_goal t s (Controls (GoesOnWith gs)) n g items h r i = h.sound
pruned_goal t s (Controls (EitherOf gs others)) n g items h r i = h.sound
pruned_goal t s (Controls (TestOf gs thens others)) n g items h r i = h.sound
pruned_goal t s (Controls (CatchOf goal catcher recovery)) n g items h r i = h.sound
pruned_goal t s (Controls (FindallOf template goal l)) n g items h r i = h.sound

pruned_items : (t : TreeState) (s : Spot) (clauses : List Clause) (g : Continuation ℕ) (items : List (Item ℕ)) → IsAt t s
    → under_query (way_of (levels_of s)) ≡ true → AreScoped (way_of (levels_of s)) items →
    IsSoundTree (gate_pruned s (item_gate clauses (levels_of s) (by_heights (levels_of s) items) g (floor_of (levels_of s)))
    (or_none (item_alone clauses (by_heights (levels_of s) items) g (floor_of (levels_of s)))) t)
pruned_items t s clauses g [] h q i = h.sound
pruned_items t s clauses g (CatchMark n ∷ items) h q i = h.sound
pruned_items t s clauses g (CollectMark x n ∷ items) h q i = h.sound
pruned_items t s clauses g (RemovalItem number ∷ items) h q i = h.sound
pruned_items t s clauses g (GoalItem x n ∷ items) h q i = pruned_goal t s (outcome_of clauses x g.next) n g items h i.0
    (rest_asked (levels_of s) n items (around_path (levels_of s) IsOpen h.placed.around) q i.0 i.1)

pruned_stack : (t : TreeState) (s : Spot) (clauses : List Clause) (e : Entry) → IsAt t s → IsOnWay (way_of (levels_of s)) e →
    IsSoundTree (gate_pruned s (gate_on clauses (levels_of s) (with_heights (levels_of s) e ∷ floor_of (levels_of s)))
    (or_none (taken_alone clauses (with_heights (levels_of s) e ∷ floor_of (levels_of s)))) t)
pruned_stack t s clauses (EndEntry b) h i = h.sound
pruned_stack t s clauses (CatchEntry c r f) h i = h.sound
pruned_stack t s clauses (FindallEntry results l f) h i = h.sound
pruned_stack t s clauses (PlainEntry f) h i =
    let g : Continuation ℕ = record { items = by_heights (levels_of s) f.items; named = f.named; next = f.next } in
    subst (λ items. IsSoundTree (gate_pruned s (item_gate clauses (levels_of s) items g (floor_of (levels_of s)))
    (or_none (item_alone clauses items g (floor_of (levels_of s)))) t)) (marks_heights (levels_of s) f.items)
    (pruned_items t s clauses g (without_marks f.items) h i.asked
    (marks_dropped (way_of (levels_of s)) f.items (around_path (levels_of s) IsOpen h.placed.around) i.scoped))

pub at_spot : (w : ℕ) (a : Place) (t : TreeState) (s : Spot) → IsSoundTree t → taken_at w a t ≡ Some s → IsAt t s
at_spot w a t s h e = let o = taken_at_open w a t s e in record
    { sound = h; opened = o.opened; placed = placed_at t s h o; free = free_at t s h o }

pub prune_sound : (t : TreeState) (w : ℕ) (a : Place) → IsSoundTree t
    → IsSoundTree (where_some (taken_at w a t) t
    (λ s. gate_pruned s (gate_of t s) (or_none (taken_alone t.job.clauses (spot_stack s))) t))
unfolding gate_of
prune_sound t w a h = some_sound t (taken_at w a t) _ h
    (λ s e. let k = at_spot w a t s h e in pruned_stack t s t.job.clauses s.entry k k.placed.entry.0)

-- answers
moved : (t : TreeState) (s : Spot) (w : World) → IsAt t s → IsAt (record t { world = w }) s
moved t s w h = record {
  sound = record { distinct = h.sound.distinct; fresh = h.sound.fresh; sound = h.sound.sound };
  opened =
      h.opened;
  placed = h.placed;
  free = h.free;
}

replied_sound : (t : TreeState) (s : Spot) (r : Reply) (g : Continuation ℕ) (items : List (Item ℕ)) → IsAt t s
    → IsAsked (way_of (levels_of s)) items
    → IsSoundTree (front_taken s (reply_taken r (with_items (by_heights (levels_of s) items) g) (floor_of (levels_of s))) t)
replied_sound t s (Solutions ss) g items h i =
    left_sound t s _ h.placed h.free
    (solutions_over s.level s.above (length (floor_of (levels_of s))) (floor_length s.level s.above)
    (with_items (by_heights (levels_of s) items) g) ss i.asked (at_heights (levels_of s) items i.scoped))
replied_sound t s (Ball b) g items h i = thrown_sound t s b items h i
replied_sound t s (HaltNumber k) g items h i = halted_sound t s k h.opened h.placed h.free

goal_front : (t : TreeState) (s : Spot) (clauses : List Clause) (o : Outcome) (g : Continuation ℕ) (items : List (Item ℕ)) (w : World)
    → IsAt t s → IsAsked (way_of (levels_of s)) items →
    IsSoundTree (world_moved s (goal_at_front clauses o (with_items (by_heights (levels_of s) items) g) (floor_of (levels_of s)) w) t)
goal_front t s clauses (AskWorld goal) g items w h i =
    let r = world_step clauses goal g.next w in replied_sound (record t { world = r.0 }) s r.1 g items (moved t s r.0 h) i
goal_front t s clauses (Replies r) g items w h i = replied_sound (record t { world = w }) s r g items (moved t s w h) i
goal_front t s clauses (Controls form) g items w h i = let m = moved t s w h in left_sound (record t { world = w }) s [] m.placed m.free tt

removal_front : (t : TreeState) (s : Spot) (db : Option Database) (g : Continuation ℕ) (items : List (Item ℕ)) (w : World) → IsAt t s
    → IsAsked (way_of (levels_of s)) items →
    IsSoundTree (world_moved s (removal_at_front db (with_items (by_heights (levels_of s) items) g) w) t)
removal_front t s None g items w h i = let m = moved t s w h in left_sound (record t { world = w }) s [] m.placed m.free tt
removal_front t s (Some db) g items w h i =
    let m = moved t s (record w { database = db }) h in
    left_sound (record t { world = record w { database = db } }) s (PlainEntry (with_items (by_heights (levels_of s) items) g) ∷ [])
    m.placed m.free (record { asked = i.asked; scoped = at_heights (levels_of s) items i.scoped }, tt)

items_front : (t : TreeState) (s : Spot) (clauses : List Clause) (g : Continuation ℕ) (items : List (Item ℕ)) (w : World) → IsAt t s
    → under_query (way_of (levels_of s)) ≡ true → AreScoped (way_of (levels_of s)) items →
    IsSoundTree (world_moved s (item_at_front clauses (by_heights (levels_of s) items) g (floor_of (levels_of s)) w) t)
items_front t s clauses g [] w h q i =
    let after : World = writes (answer_line w.operators g.named) w in
    let m = moved t s after h in
    closed_sound (record t { world = after }) s (record { inferences = 1; answers = 1; records = [] }) m.placed m.free
items_front t s clauses g (CatchMark n ∷ items) w h q i = let m = moved t s w h in left_sound (record t { world = w }) s [] m.placed
    m.free tt
items_front t s clauses g (CollectMark x n ∷ items) w h q i = let m = moved t s w h in left_sound (record t { world = w }) s [] m.placed
    m.free tt
items_front t s clauses g (RemovalItem number ∷ items) w h q i = removal_front t s (without_clause number w.database) g items w h
    (record { asked = q; scoped = i })
items_front t s clauses g (GoalItem x n ∷ items) w h q i = goal_front t s clauses (outcome_of clauses x g.next) g items w h
    (rest_asked (levels_of s) n items (around_path (levels_of s) IsOpen h.placed.around) q i.0 i.1)

stack_front : (t : TreeState) (s : Spot) (clauses : List Clause) (e : Entry) (w : World) → IsAt t s → IsOnWay (way_of (levels_of s)) e →
    IsSoundTree (world_moved s (taken_at_front clauses (with_heights (levels_of s) e ∷ floor_of (levels_of s)) w) t)
stack_front t s clauses (EndEntry b) w h i =
    let after : World = writes (end_line w.operators b) w in
    let m = moved t s after h in
    opens_sound (record t { world = after }) s t.queries m.placed m.free
stack_front t s clauses (CatchEntry c r f) w h i = let m = moved t s w h in left_sound (record t { world = w }) s [] m.placed m.free tt
stack_front t s clauses (FindallEntry results l f) w h i = let m = moved t s w h in left_sound (record t { world = w }) s [] m.placed
    m.free tt
stack_front t s clauses (PlainEntry f) w h i =
    let g : Continuation ℕ = record { items = by_heights (levels_of s) f.items; named = f.named; next = f.next } in
    subst (λ items. IsSoundTree (world_moved s (item_at_front clauses items g (floor_of (levels_of s)) w) t))
    (marks_heights (levels_of s) f.items)
    (items_front t s clauses g (without_marks f.items) w h i.asked
    (marks_dropped (way_of (levels_of s)) f.items (around_path (levels_of s) IsOpen h.placed.around) i.scoped))

pub answer_sound : (t : TreeState) (w : ℕ) (a : Place) → IsSoundTree t
    → IsSoundTree (where_some (taken_at w a t) t (λ s. world_moved s (taken_at_front t.job.clauses (spot_stack s) t.world) t))
answer_sound t w a h = some_sound t (taken_at w a t) _ h
    (λ s e. let k = at_spot w a t s h e in stack_front t s t.job.clauses s.entry t.world k k.placed.entry.0)
