-- What is at the front is taken, and the tree keeps its marks, records and queries.
use Rattle.std.proofs.Common.{◌≡◌, inl, inr, ℕ, ◌+◌, Bool, true, false, cond, List, [], ◌∷◌, length, Option, Some, None, refl, sym, ◌∙◌}
use Rattle.std.proofs.Common.{subst}
use Rattle.au_term.specs.Term.{Term}
use Rattle.run_model.specs.Programs.Clauses.{Clause}
use Rattle.run_model.specs.Programs.Databases.{Database, without_clause}
use Rattle.run_model.specs.Goals.Worlds.{World, world_step, writes}
use Rattle.au_model.specs.Writing.Lines.{answer_line, end_line}
use Rattle.run_model.specs.Programs.Jobs.{Query}
use Rattle.run_model.specs.Goals.GoalOutcomes.{outcome_of}
use Rattle.run_model.specs.Machine.Balls.{unwound}
use Rattle.run_model.specs.Goals.Outcomes.{Reply, Solutions, Ball, HaltNumber, Outcome, Replies, Controls, AskWorld}
use Rattle.run_model.specs.Machine.Items.{Item, GoalItem, CatchMark, CollectMark, RemovalItem, Continuation, first_mark, with_items}
use Rattle.run_model.specs.Machine.Items.{without_marks}
use Rattle.run_model.specs.Machine.Entries.{Entry, PlainEntry, CatchEntry, FindallEntry, EndEntry}
use Rattle.tree_model.specs.Credits.{credit_of}
use Rattle.tree_model.specs.Nodes.{Alternatives, none, alternative, Status, Pending, Inner}
use Rattle.tree_model.specs.Levels.{Level, put_left, level_node, plug, Spot, levels_of}
use Rattle.tree_model.specs.Floors.{floor_of, node_of, with_heights}
use Rattle.tree_model.specs.Gates.{ball_scope}
use Rattle.tree_model.specs.Orders.{is_node, is_closed, levels_below}
use Rattle.tree_model.specs.FrontGates.{Halts, reply_taken, goal_at_front, removal_at_front, item_at_front, taken_at_front}
use Rattle.tree_model.specs.TreeStates.{TreeState, opened_node}
use Rattle.tree_model.specs.Effects.{query_opens, front_taken, world_moved}
use Rattle.tree_model.specs.PendingLists.{way_of}
use Rattle.tree_model.specs.Ways.{AreScoped, under_query, IsAsked, IsOnWay}
use Rattle.tree_model.specs.CaughtTrees.{catch_right, MarksCaught, EntryCaught, IsNoEnd, HasNoQuery, HaveNoQuery, IsLastQuery, AreLast}
use Rattle.tree_model.specs.CaughtTrees.{IsCaughtTree}
use Rattle.tree_model.specs.SoundTrees.{IsOpen}
use Rattle.interleaving.proofs.RoundtripLemmas.{by_heights}
use Rattle.interleaving.proofs.GrowingLemmas.{around_path}
use Rattle.interleaving.proofs.PlacedEntryLemmas.{IsAt, marks_dropped, marks_heights, rest_asked}
use Rattle.interleaving.proofs.ListScopeLemmas.{dormant_on}
use Rattle.interleaving.proofs.ClockLemmas.{AreShut, AreClear}
use Rattle.interleaving.proofs.CaughtContextLemmas.{IsSome, last_down, caught_level, first_rests, rests_level, unspent_level}
use Rattle.interleaving.proofs.CaughtContextLemmas.{IsCaughtRoot}
use Rattle.interleaving.proofs.CaughtHoldLemmas.{open_right}
use Rattle.interleaving.proofs.CaughtEventLemmas.{as_tree, marks_opened, marks_without, solutions_caught}
use Rattle.interleaving.proofs.CaughtPruneLemmas.{closed_preserved, left_preserved, marks_left, thrown_preserved}
use Rattle.tree_model.specs.SoundTrees.{profile}

-- a part of a clear branch
pub clear_part : (scope : Option ℕ) (levels : List Level) → AreClear levels → AreClear (levels_below scope levels)
clear_part scope [] h = tt
clear_part scope (v ∷ up) h = go (is_node scope v.number) (clear_part scope up h.1)
  where
    go : (b : Bool) → AreClear (levels_below scope up) → AreClear (cond b [] (v ∷ levels_below scope up))
    go true k = tt
    go false k = (h.0, k)

-- a query opens where all to its left is closed
shut_last : (left : List (ℕ × Status)) (sp sq : ℕ) (old new : Status) (right : Alternatives) → AreShut left → (HasNoQuery old → ⊥)
    → IsLastQuery new → AreLast (put_left left (alternative sp old right)) → AreLast (put_left left (alternative sq new right))
shut_last left sp sq old new right k n l h = go left (alternative sp old right) (alternative sq new right) k (first right) (some right)
    (some_new right) h
  where
    some : (right : Alternatives) → IsSome (alternative sp old right)
    some right = tt

    some_new : (right : Alternatives) → IsSome (alternative sq new right)
    some_new right = tt

    first : (right : Alternatives) → AreLast (alternative sp old right) → AreLast (alternative sq new right)
    first none c = l
    first (alternative sr st more) c = absurd (n c.0)

    step : (x : ℕ × Status) (a b : Alternatives) → is_closed x.1 ≡ true → IsSome a → IsSome b → (AreLast a → AreLast b)
        → AreLast (alternative x.0 x.1 a) → AreLast (alternative x.0 x.1 b)
    step x none b q p r f c = absurd p
    step x (alternative y z w) none q p r f c = absurd r
    step x (alternative y z w) (alternative y2 z2 w2) q p r f c = (c.0, inl q, f c.2)

    go : (left : List (ℕ × Status)) (a b : Alternatives) → AreShut left → (AreLast a → AreLast b) → IsSome a → IsSome b
        → AreLast (put_left left a) → AreLast (put_left left b)
    go [] a b k f p r c = f c
    go (x ∷ left) a b k f p r c = go left (alternative x.0 x.1 a) (alternative x.0 x.1 b) k.1 (step x a b k.0 p r f) tt tt c

none_put : (left : List (ℕ × Status)) (sp : ℕ) (old : Status) (right : Alternatives) → (HasNoQuery old → ⊥)
    → HaveNoQuery (put_left left (alternative sp old right)) → ⊥
none_put left sp old right n h = n (behind left (alternative sp old right) h).0
  where
    behind : (left : List (ℕ × Status)) (others : Alternatives) → HaveNoQuery (put_left left others) → HaveNoQuery others
    behind [] others h = h
    behind (x ∷ left) others h = (behind left (alternative x.0 x.1 others) h).1

opened_up : (up : List Level) (old new : Status) → AreClear up → (HasNoQuery old → ⊥) → IsLastQuery new → IsLastQuery (plug up old)
    → IsLastQuery (plug up new)
opened_up [] old new k n l h = l
opened_up (v ∷ up) old new k n l h =
    opened_up up (Inner (level_node v old)) (Inner (level_node v new)) k.1 (λ z. none_put v.left v.spent old v.right n z.1)
    (shut_last v.left v.spent v.spent old new v.right k.0 n l (last_down up (Inner (level_node v old)) h)) h

last_opened : (v : Level) (up : List Level) (spent : ℕ) (old new : Status) → AreClear (v ∷ up) → (HasNoQuery old → ⊥) → IsLastQuery new
    → IsLastQuery (plug (v ∷ up) old) → IsLastQuery (plug (record v { spent = spent } ∷ up) new)
last_opened v up spent old new k n l h =
    opened_up up (Inner (level_node v old)) (Inner (level_node (record v { spent = spent }) new)) k.1
    (λ z. none_put v.left v.spent old v.right n z.1)
    (shut_last v.left v.spent spent old new v.right k.0 n l (last_down up (Inner (level_node v old)) h)) h

-- a halt spends on the entry
pub halt_preserved : (t : TreeState) (s : Spot) (k : ℕ) → profile (Pending s.hold s.entry) ≡ IsOpen
    → IsCaughtRoot (plug (levels_of s) (Pending s.hold s.entry)) → IsCaughtTree (front_taken s (Halts k) t)
halt_preserved t s k o root =
    let v = s.level in
    let up = s.above in
    let old = Pending s.hold s.entry in
    record {
      caught = caught_level up v old old (v.spent + 1) v.right
          (open_right s.hold s.entry o v.spent v.right ∙ sym (open_right s.hold s.entry o (v.spent + 1) v.right)) (λ c. c) root.caught;
      last = (rests_level up v old old (v.spent + 1) v.right
          (first_rests v.spent (v.spent + 1) old old v.right
          (record { no_query = λ z. z; no_node = λ z. z; closed = λ z. z; last = λ z. z }))).last root.last;
      unspent = λ z. let no_way : ⊥ = cc in absurd no_way;
    }

module _ (s : Spot) (o : profile (Pending s.hold s.entry) ≡ IsOpen) (clear : AreClear (levels_of s))
    (root : IsCaughtRoot (plug (levels_of s) (Pending s.hold s.entry))) where
  abbrev old : Status
  old = Pending s.hold s.entry

  abbrev sleeping : ℕ → Bool
  sleeping = dormant_on (levels_of s)

  first : (sp : ℕ) (others : Alternatives) → catch_right (alternative sp (Pending s.hold s.entry) others) ≡ false
  first sp others = open_right s.hold s.entry o sp others

  reply_preserved : (t : TreeState) (h : IsAt t s) (r : Reply) (g : Continuation ℕ) (items : List (Item ℕ))
      → IsAsked (way_of (levels_of s)) items → MarksCaught (dormant_on (levels_of s)) items
      → IsCaughtTree (front_taken s (reply_taken r (with_items (by_heights (levels_of s) items) g) (floor_of (levels_of s))) t)
  reply_preserved t h (Solutions ss) g items i m =
      left_preserved t s h (Pending s.hold s.entry) first refl root _
      (solutions_caught (dormant_on (levels_of s)) t.next (node_of (levels_of s)) (length (floor_of (levels_of s)))
      (with_items (by_heights (levels_of s) items) g) ss
      (marks_left t s h (Pending s.hold s.entry) first refl root items i.scoped m))
  reply_preserved t h (Ball b) g items i m =
      thrown_preserved t s h (Pending s.hold s.entry) first refl root b items i m
      (clear_part (Some (ball_scope (levels_of s)
      (unwound b (first_mark (by_heights (levels_of s) items)) (floor_of (levels_of s))))) (levels_of s) clear)
  reply_preserved t h (HaltNumber k) g items i m = halt_preserved t s k o root

  goal_preserved : (t : TreeState) (h : (w : World) → IsAt (record t { world = w }) s) (clauses : List Clause) (out : Outcome)
      (g : Continuation ℕ) (items : List (Item ℕ)) (w : World) → IsAsked (way_of (levels_of s)) items
      → MarksCaught (dormant_on (levels_of s)) items
      → IsCaughtTree (world_moved s (goal_at_front clauses out (with_items (by_heights (levels_of s) items) g) (floor_of (levels_of s))
      w) t)
  goal_preserved t h clauses (AskWorld goal) g items w i m = let r = world_step clauses goal g.next w in reply_preserved
      (record t { world = r.0 }) (h r.0) r.1 g items i m
  goal_preserved t h clauses (Replies r) g items w i m = reply_preserved (record t { world = w }) (h w) r g items i m
  goal_preserved t h clauses (Controls form) g items w i m = left_preserved (record t { world = w }) s (h w)
      (Pending s.hold s.entry) first refl
      root [] tt

  removal_preserved : (t : TreeState) (h : (w : World) → IsAt (record t { world = w }) s) (db : Option Database) (g : Continuation ℕ)
      (items : List (Item ℕ)) (w : World) → IsAsked (way_of (levels_of s)) items → MarksCaught (dormant_on (levels_of s)) items
      → IsCaughtTree (world_moved s (removal_at_front db (with_items (by_heights (levels_of s) items) g) w) t)
  removal_preserved t h None g items w i m = left_preserved (record t { world = w }) s (h w) (Pending s.hold s.entry) first refl root [] tt
  removal_preserved t h (Some db) g items w i m =
      let new = record w { database = db } in
      left_preserved (record t { world = new }) s (h new) (Pending s.hold s.entry) first refl root
      (PlainEntry (with_items (by_heights (levels_of s) items) g) ∷ [])
      ((marks_left (record t { world = new }) s (h new) (Pending s.hold s.entry) first refl root items i.scoped m, tt), tt)

  items_preserved : (t : TreeState) (h : (w : World) → IsAt (record t { world = w }) s) (clauses : List Clause) (g : Continuation ℕ)
      (items : List (Item ℕ)) (w : World) → under_query (way_of (levels_of s)) ≡ true → AreScoped (way_of (levels_of s)) items
      → MarksCaught (dormant_on (levels_of s)) items
      → IsCaughtTree (world_moved s (item_at_front clauses (by_heights (levels_of s) items) g (floor_of (levels_of s)) w) t)
  items_preserved t h clauses g [] w u i m =
      let after : World = writes (answer_line w.operators g.named) w in
      closed_preserved (record t { world = after }) s (h after) (Pending s.hold s.entry) first refl root
      (record { inferences = 1; answers = 1; records = [] }) (inl refl)
  items_preserved t h clauses g (CatchMark n ∷ items) w u i m = left_preserved (record t { world = w }) s (h w)
      (Pending s.hold s.entry) first
      refl root [] tt
  items_preserved t h clauses g (CollectMark x n ∷ items) w u i m = left_preserved (record t { world = w }) s (h w)
      (Pending s.hold s.entry) first
      refl root [] tt
  items_preserved t h clauses g (RemovalItem number ∷ items) w u i m = removal_preserved t h (without_clause number w.database) g items w
      (record { asked = u; scoped = i }) m
  items_preserved t h clauses g (GoalItem x n ∷ items) w u i m = goal_preserved t h clauses (outcome_of clauses x g.next) g items w
      (rest_asked (levels_of s) n items (around_path (levels_of s) IsOpen (h w).placed.around) u i.0 i.1) m

  query_preserved : (t : TreeState) (h : IsAt t s) (qs : List Query) (b : Option Term) → s.entry ≡ EndEntry b
      → IsCaughtTree (query_opens s qs t)
  query_preserved t h [] b e = closed_preserved t s h (Pending s.hold s.entry) first refl root (credit_of 1) (inl refl)
  query_preserved t h (q ∷ qs) b e =
      let v = s.level in
      let up = s.above in
      let node = opened_node t.next q in
      as_tree _ (record {
        caught = caught_level up v (Pending s.hold s.entry) (Inner node) (v.spent + 1) v.right (first v.spent v.right)
            (λ c. ((marks_opened _ t.next q.goals, (tt, tt)), c.1)) root.caught;
        last = last_opened v up (v.spent + 1) (Pending s.hold s.entry) (Inner node) clear (λ z. subst IsNoEnd e z)
            (tt, (inr (tt, tt)), tt) root.last;
        unspent = unspent_level up v (Pending s.hold s.entry) (Inner node) (v.spent + 1) v.right (λ c. ((refl, (refl, tt)), c.1))
            root.unspent;
      })

  pub stack_preserved : (t : TreeState) (h : (w : World) → IsAt (record t { world = w }) s) (clauses : List Clause) (e : Entry) (w : World)
      → s.entry ≡ e → IsOnWay (way_of (levels_of s)) e → EntryCaught (dormant_on (levels_of s)) e
      → IsCaughtTree (world_moved s (taken_at_front clauses (with_heights (levels_of s) e ∷ floor_of (levels_of s)) w) t)
  stack_preserved t h clauses (EndEntry b) w q i m =
      let after : World = writes (end_line w.operators b) w in
      query_preserved (record t { world = after }) (h after) t.queries b q
  stack_preserved t h clauses (CatchEntry c r f) w q i m = left_preserved (record t { world = w }) s (h w)
      (Pending s.hold s.entry) first refl
      root [] tt
  stack_preserved t h clauses (FindallEntry results l f) w q i m = left_preserved (record t { world = w }) s (h w)
      (Pending s.hold s.entry) first
      refl root [] tt
  stack_preserved t h clauses (PlainEntry f) w q i m =
      let g : Continuation ℕ = record { items = by_heights (levels_of s) f.items; named = f.named; next = f.next } in
      subst (λ items. IsCaughtTree (world_moved s (item_at_front clauses items g (floor_of (levels_of s)) w) t))
      (marks_heights (levels_of s) f.items)
      (items_preserved t h clauses g (without_marks f.items) w i.asked
      (marks_dropped (way_of (levels_of s)) f.items (around_path (levels_of s) IsOpen (h w).placed.around) i.scoped)
      (marks_without (dormant_on (levels_of s)) f.items m))
