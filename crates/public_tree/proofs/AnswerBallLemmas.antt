-- A ball that is thrown at the front, in the tree for which the nodes stand.
use Rattle.std.proofs.Common.{◌≡◌, ℕ, suc, ◌+◌, Bool, true, false, cond, List, [], ◌∷◌, ◌++◌, length, Option, Some, None, sym, ap, ◌∙◌, subst, arith}
use Rattle.std.specs.Option.{option_map}
use Rattle.std.specs.Prelude.{find, is_none, ◌&&◌}
use Rattle.au_term.specs.Term.{Term}
use Rattle.au_term.proofs.LogicLemmas.{and-both, number_same}
use Rattle.run_model.specs.Goals.GoalOutcomes.{outcome_of}
use Rattle.run_model.specs.Goals.Outcomes.{Reply, Solutions, Ball, HaltNumber, Outcome, Replies, Controls, AskWorld}
use Rattle.run_model.specs.Goals.Worlds.{World, world_step}
use Rattle.run_model.specs.Machine.Balls.{unwound}
use Rattle.run_model.specs.Machine.Entries.{Entry, PlainEntry, CatchEntry, FindallEntry, EndEntry}
use Rattle.run_model.specs.Machine.Items.{Item, GoalItem, CatchMark, CollectMark, RemovalItem, Continuation, with_items, first_mark}
use Rattle.run_model.specs.Programs.Clauses.{Clause}
use Rattle.run_model.specs.Programs.Databases.{Database, without_clause}
use Rattle.tree_model.specs.Closing.{Grown, wakes, with_right}
use Rattle.tree_model.specs.Credits.{Credit, credit_of}
use Rattle.tree_model.specs.Effects.{grown, front_taken}
use Rattle.tree_model.specs.Events.{Answer}
use Rattle.tree_model.specs.Floors.{node_of, with_heights, with_nodes, floor_of}
use Rattle.tree_model.specs.FrontGates.{Taken, Raises, reply_taken, goal_at_front, removal_at_front, item_at_front, taken_at_front}
use Rattle.tree_model.specs.Gates.{ball_scope}
use Rattle.tree_model.specs.Legality.{is_taken_by, is_spot_at, taken_at, is_allowed}
use Rattle.tree_model.specs.Levels.{Level, plug, Place, same_place, Spot, levels_of, place_of_spot, pending_of}
use Rattle.tree_model.specs.Nodes.{Hold, Pending, Inner, single}
use Rattle.tree_model.specs.Orders.{first_open, is_cleared}
use Rattle.tree_model.specs.Pruning.{Task, tasks_pruned, ball_closes}
use Rattle.tree_model.specs.SoundTrees.{IsOpen, profile, IsSound, IsSoundTree}
use Rattle.tree_model.specs.TreeStates.{TreeState, first_spot, leftmost}
use Rattle.tree_model.proofs.OrderLemmas.{none_below}
use Rattle.tree_nodes.specs.Bodies.{Body, Reading}
use Rattle.tree_nodes.specs.Rows.{PendingCell, InnerCell, cell_at}
use Rattle.tree_nodes.specs.TreeTables.{IsTableOf}
use Rattle.tree_nodes.proofs.WalkLemmas.{cell_here}
use Rattle.prune_ops.specs.Falls.{down_to, sleeper_on, IsLanding, LandsBelow, LandsNowhere, ReadsBeside, LandsBeside}
use Rattle.interleaving.proofs.OpenSpotLemmas.{taken_at_open}
use Rattle.interleaving.proofs.UnchangedPlaceLemmas.{same_place-is, place_self}
use Rattle.public_tree.specs.PublicTrees.{PublicView, IsRooted, IsPublicOf, is_going, IsOut}
use Rattle.public_tree.specs.PrunedTasks.{FindsTasks}
use Rattle.public_tree.specs.Answering.{taken_as, IsBarred, ReadsAsRaised, FallsAs}
use Rattle.public_tree.proofs.HandOutLemmas.{first_spot_at, rooted_round, taken_place}
use Rattle.public_tree.proofs.PruningLemmas.{table_out, by_out}
use Rattle.public_tree.proofs.MakeLemmas.{cell_or}
use Rattle.public_tree.proofs.PublishingLemmas.{hold_out}
use Rattle.public_tree.proofs.BallGateLemmas.{ball_sleeps}
use Rattle.public_tree.proofs.AnsweringLemmas.{IsAfter, moved}

-- what a ball leaves of the stack that is below its top
record IsThrown (floor es : List Entry) : Type 0 where
  ball : Term
  mark : Option ℕ
  is : es ≡ unwound ball mark floor

reply_thrown : (r : Reply) (f : Continuation ℕ) (floor es : List Entry) → reply_taken r f floor ≡ Raises es → IsThrown floor es
reply_thrown (Solutions ss) f floor es h = absurd (cc h)
reply_thrown (Ball b) f floor es h = let same : unwound b (first_mark f.items) floor ≡ es = cc h in record { ball = b; mark = first_mark f.items; is = sym same }
reply_thrown (HaltNumber k) f floor es h = absurd (cc h)

goal_thrown : (clauses : List Clause) (o : Outcome) (f : Continuation ℕ) (floor es : List Entry) (w : World) → (goal_at_front clauses o f floor w).1 ≡ Raises es
    → IsThrown floor es
goal_thrown clauses (AskWorld goal) f floor es w h = reply_thrown (world_step clauses goal f.next w).1 f floor es h
goal_thrown clauses (Replies r) f floor es w h = reply_thrown r f floor es h
goal_thrown clauses (Controls form) f floor es w h = absurd (cc h)

removal_thrown : (o : Option Database) (f : Continuation ℕ) (floor es : List Entry) (w : World) → (removal_at_front o f w).1 ≡ Raises es → IsThrown floor es
removal_thrown None f floor es w h = absurd (cc h)
removal_thrown (Some db) f floor es w h = absurd (cc h)

item_thrown : (clauses : List Clause) (items : List (Item ℕ)) (f : Continuation ℕ) (floor es : List Entry) (w : World)
    → (item_at_front clauses items f floor w).1 ≡ Raises es → IsThrown floor es
item_thrown clauses [] f floor es w h = absurd (cc h)
item_thrown clauses (GoalItem g height ∷ items) f floor es w h = goal_thrown clauses (outcome_of clauses g f.next) (with_items items f) floor es w h
item_thrown clauses (RemovalItem number ∷ items) f floor es w h = removal_thrown (without_clause number w.database) (with_items items f) floor es w h
item_thrown clauses (CatchMark height ∷ items) f floor es w h = absurd (cc h)
item_thrown clauses (CollectMark t height ∷ items) f floor es w h = absurd (cc h)

-- something sleeps at its scope
front_sleeps : (clauses : List Clause) (levels : List Level) (hold : Hold) (e : Entry) (es : List Entry) (w : World) → IsSound [] (plug levels (Pending hold e))
    → profile (Pending hold e) ≡ IsOpen → (taken_at_front clauses (with_heights levels e ∷ floor_of levels) w).1 ≡ Raises es
    → (slept : Entry) × (sleeper_on (down_to (ball_scope levels es) levels) ≡ Some slept)
front_sleeps clauses levels hold (CatchEntry c r f) es w s p h = absurd (cc h)
front_sleeps clauses levels hold (FindallEntry results l f) es w s p h = absurd (cc h)
front_sleeps clauses levels hold (EndEntry b) es w s p h = absurd (cc h)
front_sleeps clauses levels hold (PlainEntry f) es w s p h =
    let k = item_thrown clauses _ _ (floor_of levels) es w h in
    let slept = ball_sleeps levels hold f k.ball k.mark s p in
    (slept.0, ap (λ (x : List Entry). sleeper_on (down_to (ball_scope levels x) levels)) k.is ∙ slept.1)

raised_sleeps : (w : ℕ) (a : Place) (t : TreeState) (s : Spot) (es : List Entry) → IsSoundTree t → taken_at w a t ≡ Some s → taken_as t s ≡ Raises es
    → (slept : Entry) × (sleeper_on (down_to (ball_scope (levels_of s) es) (levels_of s)) ≡ Some slept)
raised_sleeps w a t s es sound e raises =
    let o = taken_at_open w a t s e in
    front_sleeps t.job.clauses (levels_of s) s.hold s.entry es t.world (subst (IsSound []) (sym o.inside) sound.sound) o.opened raises

-- what is out, where it is at the place of the leftmost entry, is that entry
found_first : (p : Spot → Bool) (ss : List Spot) (r s : Spot) → first_spot ss ≡ Some r → p r ≡ true → find p ss ≡ Some s → r ≡ s
found_first p [] r s f k e = absurd (cc f)
found_first p (x ∷ ss) r s f k e =
    let is : x ≡ r = cc f in
    let got : Some x ≡ Some s = sym (ap (λ (b : Bool). cond b (Some x) (find p ss)) (ap p is ∙ k)) ∙ e in
    let same : x ≡ s = cc got in
    sym is ∙ same

spot_here : (a : Place) (o : Option Spot) → is_spot_at a o ≡ true → option_map place_of_spot o ≡ Some a
spot_here a None l = absurd (cc l)
spot_here a (Some s) l = ap Some (sym (same_place-is a (place_of_spot s) l))

first_out : (p : PublicView) (w : ℕ) (a : Place) (read : Reading) (t : TreeState) (s : Spot) → IsPublicOf p read t → taken_at w a t ≡ Some s
    → is_spot_at a (leftmost t) ≡ true → first_open (levels_of s) ≡ None
first_out p w a read t s h e l =
    let first = first_spot_at t.root a h.sound.sound (spot_here a (leftmost t) l) in
    let r = first.spot in
    let there : cell_at p.nodes.rows a ≡ Some (r.level.spent, PendingCell r.hold) = ap (cell_at p.nodes.rows) (sym first.at)
    ∙ cell_here p.nodes read r.level r.above (Pending r.hold r.entry) (subst (IsTableOf p.nodes read) first.plugged h.placed) in
    let here : cell_at p.nodes.rows a ≡ Some (s.level.spent, PendingCell s.hold) = ap (cell_at p.nodes.rows) (sym (taken_place w a t s e))
    ∙ cell_here p.nodes read s.level s.above (Pending s.hold s.entry) (table_out p.nodes w a read t s h.placed e) in
    let cells : PendingCell r.hold ≡ PendingCell s.hold = ap (cell_or (InnerCell 0)) (sym there ∙ here) in
    let holds : r.hold ≡ s.hold = cc cells in
    let passes : (is_taken_by w r.hold && same_place a (place_of_spot r)) ≡ true = and-both (is_taken_by w r.hold) (same_place a (place_of_spot r))
    (ap (is_taken_by w) (holds ∙ hold_out w a t s e) ∙ number_same w) (ap (same_place a) first.at ∙ place_self a) in
    let same : r ≡ s = found_first (λ x. is_taken_by w x.hold && same_place a (place_of_spot x)) (pending_of t.root) r s first.is passes e in
    subst (λ (x : Spot). first_open (levels_of x) ≡ None) same first.clear

first_cleared : (w : ℕ) (p : PublicView) (a : Place) (n : ℕ) → IsBarred p a None → (read : Reading) (t : TreeState) (s : Spot) → IsPublicOf p read t
    → taken_at w a t ≡ Some s → is_cleared (Some n) (levels_of s) ≡ true
first_cleared w p a n free read t s h e = ap is_none (none_below (Some n) (levels_of s) (first_out p w a read t s h e (sym (free.1 read t h))))

-- it lands somewhere
pub no_landing : (p : PublicView) (w : ℕ) (a : Place) (n : ℕ) (body : Body) → IsBarred p a None → IsOut p w a → LandsNowhere p.nodes a n
    → (read : Reading) (t : TreeState) → IsPublicOf p read t → FallsAs p.nodes.rows n body w a read t
    → (is_going t ≡ true) × (is_allowed t (Answer w a false) ≡ false)
no_landing p w a n body free out nowhere read t h falls = by_out p w a out read t h (λ s e. absurd (lands s e))
  where
    lands : (s : Spot) → taken_at w a t ≡ Some s → ⊥
    lands s e =
        let table = table_out p.nodes w a read t s h.placed e in
        let x = (falls s e).1 in
        let k = raised_sleeps w a t s (x.entry ∷ x.under) h.sound e x.raises in
        let sleeps : sleeper_on (down_to n (levels_of s)) ≡ Some k.0 = ap (λ (m : ℕ). sleeper_on (down_to m (levels_of s))) (sym x.scope) ∙ k.1 in
        let z : Some k.0 ≡ None = sym sleeps
        ∙ nowhere read s.level s.above (Pending s.hold s.entry) (taken_place w a t s e) table (first_cleared w p a n free read t s h e) in
        cc z

-- it is thrown, and lands
module _ (w : ℕ) (old new : PublicView) (a b : Place) (n : ℕ) (total : Credit) (body : Body) (free : IsBarred old a None)
    (lands : LandsBelow old.nodes a n b total) (beside : LandsBeside old.nodes new.nodes b total body) (rows : length new.nodes.rows ≡ length old.nodes.rows + 1)
    (lost : FindsTasks old.nodes a n old.lost new.lost) (halted : new.halted ≡ old.halted) (budget : new.budget ≡ old.budget)
    (window : new.window ≡ old.window) (stopped : new.log.stopped ≡ old.log.stopped) where
  module _ (read : Reading) (t : TreeState) (s : Spot) (h : IsPublicOf old read t) (e : taken_at w a t ≡ Some s)
      (raised : ReadsAsRaised read old.nodes.rows n body (levels_of s) (taken_as t s)) where
    table : IsTableOf old.nodes read (plug (levels_of s) (Pending s.hold s.entry))
    table = table_out old.nodes w a read t s h.placed e

    landing : IsLanding n s.level s.above (Pending s.hold s.entry) b total
    landing = lands read s.level s.above (Pending s.hold s.entry) (taken_place w a t s e) table (first_cleared w old a n free read t s h e)

    abbrev woken : Entry
    woken = with_nodes (node_of (levels_of s)) raised.entry

    abbrev after_fall : Grown
    after_fall = ball_closes t.next n (levels_of s) (credit_of 1) woken

    closes : after_fall ≡ wakes t.next landing.level landing.above total woken
    closes = landing.lands t.next woken

    fall_table : IsTableOf new.nodes read after_fall.root
    fall_table =
        let o = taken_at_open w a t s e in
        let sound : IsSound [] (plug (levels_of s) (Pending s.hold s.entry)) = subst (IsSound []) (sym o.inside) h.sound.sound in
        let below : ReadsBeside read old.nodes.rows b body woken
        = subst (λ (m : ℕ). ReadsBeside read old.nodes.rows (record { node = m; index = 0 }) body woken) (sym landing.on) raised.beside in
        let now = beside read landing.level landing.above landing.status woken landing.at (subst (IsTableOf old.nodes read) landing.same table)
        (subst (IsSound []) landing.same sound) below in
        subst (λ (g : Grown). IsTableOf new.nodes read g.root) (sym closes)
        (subst (λ (m : ℕ). IsTableOf new.nodes read (wakes m landing.level landing.above total woken).root) h.next now)

    after : front_taken s (taken_as t s) (moved t s) ≡ grown after_fall (record (moved t s) { lost = t.lost ++ tasks_pruned n (levels_of s) })
    after =
        ap (λ (y : Taken). front_taken s y (moved t s)) raised.raises
        ∙ ap (λ (m : ℕ). grown (ball_closes t.next m (levels_of s) (credit_of 1) woken) (record (moved t s) { lost = t.lost ++ tasks_pruned m (levels_of s) })) raised.scope

    pub falls_after : IsAfter new read (front_taken s (taken_as t s) (moved t s))
    falls_after =
        let more : length new.nodes.rows ≡ suc t.next = (let z = h.next in omega (arith, rows, z)) in
        subst (IsAfter new read) (sym after)
        (record {
          placed = fall_table;
          next = more ∙ ap (λ (g : Grown). g.next) (sym closes);
          lost = lost read s.level s.above (Pending s.hold s.entry) (taken_place w a t s e) table ∙ ap (λ (ts : List Task). ts ++ tasks_pruned n (levels_of s)) h.lost;
          halted = halted ∙ h.halted;
          budget = budget ∙ h.budget;
          window = window ∙ h.window;
          stopped = stopped ∙ h.stopped;
          rooted = subst (λ (g : Grown). IsRooted g.root) (sym closes) (rooted_round (with_right (Inner (single t.next woken)) landing.level) landing.above _);
        })
