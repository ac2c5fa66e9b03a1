-- What every event does to the answers of a tree.
use Rattle.std.proofs.Common.{◌≡◌, ℕ, ◌+◌, ◌<◌, true, false, List, [], ◌∷◌, map, Option, Some, None, refl, sym, ap, ◌∙◌, subst, arith}
use Rattle.std.specs.Prelude.{◌&&◌}
use Rattle.run_model.specs.Programs.Clauses.{Clause}
use Rattle.run_model.specs.Programs.Databases.{Database, without_clause}
use Rattle.run_model.specs.Goals.Worlds.{World, world_step}
use Rattle.run_model.specs.Goals.GoalOutcomes.{outcome_of}
use Rattle.run_model.specs.Machine.Balls.{unwound}
use Rattle.run_model.specs.Goals.Outcomes.{Reply, Solutions, Ball, HaltNumber, Outcome, Replies, Controls, AskWorld}
use Rattle.run_model.specs.Machine.Items.{Item, GoalItem, CatchMark, CollectMark, RemovalItem, Continuation, first_mark, with_items}
use Rattle.run_model.specs.Machine.Items.{without_marks}
use Rattle.run_model.specs.Machine.Entries.{Entry, PlainEntry, CatchEntry, FindallEntry, EndEntry}
use Rattle.tree_model.specs.Credits.{greatest, credit_of}
use Rattle.tree_model.specs.Nodes.{Hold, TakenBy, Status, Pending}
use Rattle.tree_model.specs.Levels.{plug, Spot, levels_of}
use Rattle.tree_model.specs.Floors.{floor_of, with_heights}
use Rattle.tree_model.specs.Gates.{gate_on}
use Rattle.tree_model.specs.Shapes.{placed, placed_scope}
use Rattle.tree_model.specs.Floors.{with_nodes}
use Rattle.tree_model.specs.PrivateRuns.{taken_alone}
use Rattle.tree_model.specs.FrontGates.{Taken, Raises, reply_taken, goal_at_front, removal_at_front, item_at_front, taken_at_front}
use Rattle.tree_model.specs.Events.{Event, Claim, Nodes, Empty, Collected, Lost, Suspend, Resume, Prune, Answer, Stop}
use Rattle.tree_model.specs.TreeStates.{TreeState, leftmost}
use Rattle.tree_model.specs.Legality.{claimable, resumable, taken_at, gate_of, run_of, is_world_gate, is_spot_at, at_spot, may_prune}
use Rattle.tree_model.specs.Legality.{is_legal}
use Rattle.tree_model.specs.Effects.{spending, closed_with, or_none, gate_pruned, front_taken, spot_stack, world_moved, run_placed}
use Rattle.tree_model.specs.Effects.{results_of, gate_or_frozen, with_status, where_some, after_event}
use Rattle.tree_model.specs.PendingLists.{way_of}
use Rattle.tree_model.specs.Ways.{AreScoped, under_query, IsAsked, IsOnWay}
use Rattle.tree_model.specs.SoundTrees.{IsOpen, IsSoundTree}
use Rattle.tree_model.specs.CaughtTrees.{MarksCaught, EntryCaught, IsCaughtTree}
use Rattle.tree_model.specs.GivenAnswers.{answers_in, AreInOrder}
use Rattle.tree_model.specs.AnswersTold.{answers_by, answers_at, answers_first, answers_told}
use Rattle.interleaving.proofs.ContextLemmas.{IsAround}
use Rattle.interleaving.proofs.RoundtripLemmas.{by_heights}
use Rattle.interleaving.proofs.GrowingLemmas.{around_path}
use Rattle.interleaving.proofs.OpenSpotLemmas.{IsOpenSpot, claimable_open, resumable_open, placed_at, taken_at_open}
use Rattle.interleaving.proofs.PlacedEntryLemmas.{IsAt, at_spot as known_at, marks_dropped, marks_heights, rest_asked}
use Rattle.interleaving.proofs.GoingLemmas.{going, legal_parts}
use Rattle.interleaving.proofs.SpotsApartLemmas.{taken_first}
use Rattle.interleaving.proofs.ClockLemmas.{AreClear, leftmost_known}
use Rattle.interleaving.proofs.ListScopeLemmas.{dormant_on}
use Rattle.interleaving.proofs.CaughtContextLemmas.{IsCaughtRoot, caught_down}
use Rattle.interleaving.proofs.CaughtEventLemmas.{marks_without}
use Rattle.interleaving.proofs.CaughtTakenLemmas.{root_at}
use Rattle.interleaving.proofs.CatchingLemmas.{catching, catching_entries, ball_scope_falls, catching_taken, first_height, first_dormant}
use Rattle.interleaving.proofs.PruneCasesLemmas.{plain_moves}
use Rattle.interleaving.proofs.AnswerOrderLemmas.{same_left, rights_empty}
use Rattle.interleaving.proofs.AnswerClosingLemmas.{IsOrdered, spent_left}
use Rattle.interleaving.proofs.AnswerPlaceLemmas.{placed_none, put_preserved, closed_preserved, answer_preserved, left_preserved}
use Rattle.interleaving.proofs.AnswerPlaceLemmas.{cut_preserved, fallen_preserved}
use Rattle.interleaving.proofs.AnswerPlaceLemmas.{halt_preserved, queries_preserved}
use Rattle.au_term.proofs.LogicLemmas.{and-right, false_true}

none_more : (status : Status) (n : ℕ) → IsOrdered status n → IsOrdered status (n + 0)
none_more status n h = let z = h.1 in (h.0, omega (arith, z))

-- at a place
module _ (s : Spot) (around : IsAround (levels_of s) IsOpen) (clear : AreClear (levels_of s))
    (root : IsCaughtRoot (plug (levels_of s) (Pending s.hold s.entry)))
    (order : AreInOrder (plug (levels_of s) (Pending s.hold s.entry)))
    (few : answers_in (plug (levels_of s) (Pending s.hold s.entry)) < greatest) where
  abbrev Moved : TreeState → Taken → Type 0
  Moved t x = IsOrdered (front_taken s x t).root (answers_in (plug (levels_of s) (Pending s.hold s.entry)) + answers_by x)

  reply_moved : (t : TreeState) (r : Reply) (g : Continuation ℕ) (items : List (Item ℕ)) → IsAsked (way_of (levels_of s)) items
      → MarksCaught (dormant_on (levels_of s)) items
      → Moved t (reply_taken r (with_items (by_heights (levels_of s) items) g) (floor_of (levels_of s)))
  reply_moved t (Solutions ss) g items i m = none_more _ _ (left_preserved t s around order few _)
  reply_moved t (HaltNumber k) g items i m = none_more _ _ (halt_preserved t s around order few k)
  reply_moved t (Ball b) g items i m =
      let levels = levels_of s in
      let mark = first_mark items in
      let sleeps = first_dormant levels items m in
      let status = Pending s.hold s.entry in
      let same : unwound b (first_mark (by_heights levels items)) (floor_of levels)
      ≡ catching_entries b (catching b levels mark) = ap (λ k. unwound b k (floor_of levels)) (first_height levels items)
      ∙ ball_scope_falls b levels status mark around root.caught sleeps in
      subst (λ es. Moved t (Raises es)) (sym same)
      (none_more _ _ (fallen_preserved t s around order few b (catching b levels mark)
      (catching_taken b levels status mark around root.caught sleeps) i.asked))

  goal_moved : (t : TreeState) (clauses : List Clause) (out : Outcome) (g : Continuation ℕ) (items : List (Item ℕ)) (w : World)
      → IsAsked (way_of (levels_of s)) items → MarksCaught (dormant_on (levels_of s)) items
      → Moved t (goal_at_front clauses out (with_items (by_heights (levels_of s) items) g) (floor_of (levels_of s)) w).1
  goal_moved t clauses (AskWorld goal) g items w i m = let r = world_step clauses goal g.next w in reply_moved t r.1 g items i m
  goal_moved t clauses (Replies r) g items w i m = reply_moved t r g items i m
  goal_moved t clauses (Controls form) g items w i m = none_more _ _ (left_preserved t s around order few [])

  removal_moved : (t : TreeState) (db : Option Database) (f : Continuation ℕ) (w : World) → Moved t (removal_at_front db f w).1
  removal_moved t None f w = none_more _ _ (left_preserved t s around order few [])
  removal_moved t (Some db) f w = none_more _ _ (left_preserved t s around order few (PlainEntry f ∷ []))

  items_moved : (t : TreeState) (clauses : List Clause) (g : Continuation ℕ) (items : List (Item ℕ)) (w : World)
      → under_query (way_of (levels_of s)) ≡ true → AreScoped (way_of (levels_of s)) items → MarksCaught (dormant_on (levels_of s)) items
      → Moved t (item_at_front clauses (by_heights (levels_of s) items) g (floor_of (levels_of s)) w).1
  items_moved t clauses g [] w u i m = answer_preserved t s around order few
      (record { inferences = 1; answers = 1; records = [] }) refl clear
  items_moved t clauses g (CatchMark n ∷ items) w u i m = none_more _ _ (left_preserved t s around order few [])
  items_moved t clauses g (CollectMark x n ∷ items) w u i m = none_more _ _ (left_preserved t s around order few [])
  items_moved t clauses g (RemovalItem number ∷ items) w u i m = removal_moved t (without_clause number w.database) _ w
  items_moved t clauses g (GoalItem x n ∷ items) w u i m = goal_moved t clauses (outcome_of clauses x g.next) g items w
      (rest_asked (levels_of s) n items (around_path (levels_of s) IsOpen around) u i.0 i.1) m

  pub stack_moved : (t : TreeState) (clauses : List Clause) (e : Entry) (w : World) → IsOnWay (way_of (levels_of s)) e
      → EntryCaught (dormant_on (levels_of s)) e
      → Moved t (taken_at_front clauses (with_heights (levels_of s) e ∷ floor_of (levels_of s)) w).1
  stack_moved t clauses (EndEntry b) w i m = none_more _ _ (queries_preserved t s around order few)
  stack_moved t clauses (CatchEntry c r f) w i m = none_more _ _ (left_preserved t s around order few [])
  stack_moved t clauses (FindallEntry results l f) w i m = none_more _ _ (left_preserved t s around order few [])
  stack_moved t clauses (PlainEntry f) w i m =
      let g : Continuation ℕ = record { items = by_heights (levels_of s) f.items; named = f.named; next = f.next } in
      subst (λ items. Moved t (item_at_front clauses items g (floor_of (levels_of s)) w).1) (marks_heights (levels_of s) f.items)
      (items_moved t clauses g (without_marks f.items) w i.asked
      (marks_dropped (way_of (levels_of s)) f.items (around_path (levels_of s) IsOpen around) i.scoped)
      (marks_without (dormant_on (levels_of s)) f.items m))

module _ (t : TreeState) (i : IsSoundTree t) (q : IsCaughtTree t) (order : AreInOrder t.root) (few : answers_in t.root < greatest) where
  abbrev KeepsOrder : Status → Type 0
  KeepsOrder root = IsOrdered root (answers_in t.root + 0)

  order_at : (s : Spot) → IsOpenSpot t.root s → AreInOrder (plug (levels_of s) (Pending s.hold s.entry))
  order_at s o = subst AreInOrder (sym o.inside) order

  few_at : (s : Spot) → IsOpenSpot t.root s → answers_in (plug (levels_of s) (Pending s.hold s.entry)) < greatest
  few_at s o = subst (λ r. answers_in r < greatest) (sym o.inside) few

  at_root : (s : Spot) → IsOpenSpot t.root s → (new : Status) (n : ℕ)
      → IsOrdered new (answers_in (plug (levels_of s) (Pending s.hold s.entry)) + n) → IsOrdered new (answers_in t.root + n)
  at_root s o new n h = subst (λ r. IsOrdered new (answers_in r + n)) o.inside h

  -- what gives no answer, at some place or at none
  somewhere : (o : Option Spot) (new : Spot → TreeState) → ((s : Spot) → o ≡ Some s → IsOpenSpot t.root s)
      → ((s : Spot) → IsOpenSpot t.root s → o ≡ Some s
      → IsOrdered (new s).root (answers_in (plug (levels_of s) (Pending s.hold s.entry)))) → KeepsOrder (where_some o t new).root
  somewhere None new f g = none_more t.root _ (order, refl)
  somewhere (Some s) new f g = let o = f s refl in at_root s o (new s).root 0 (none_more (new s).root _ (g s o refl))

  held : (s : Spot) (h : Hold) → IsOpenSpot t.root s → IsOrdered (plug (levels_of s) (Pending h s.entry))
      (answers_in (plug (levels_of s) (Pending s.hold s.entry)))
  held s h o = put_preserved t s (placed_at t s i o).around (order_at s o) (few_at s o) (levels_of s) (Pending h s.entry)
      (same_left (levels_of s) (rights_empty (levels_of s) (Pending s.hold s.entry) refl (order_at s o))) refl

  placed_preserved : (s : Spot) (k : ℕ) (sizes : List ℕ) (r : Option (List Entry)) → IsOpenSpot t.root s
      → IsOrdered (run_placed s k sizes r t).root (answers_in (plug (levels_of s) (Pending s.hold s.entry)))
  placed_preserved s k sizes None o = (order, sym (ap answers_in o.inside))
  placed_preserved s k sizes (Some es) o =
      put_preserved t s (placed_at t s i o).around (order_at s o) (few_at s o) (spending k (levels_of s))
      (placed t.next sizes (levels_of s) es)
      (spent_left k (levels_of s) (rights_empty (levels_of s) (Pending s.hold s.entry) refl (order_at s o)))
      (placed_none t.next sizes (map (with_nodes (placed_scope t.next sizes (levels_of s))) es))

  prune_preserved : (s : Spot) → IsOpenSpot t.root s → IsAt t s → t.halted ≡ None → (e : Entry) → s.entry ≡ e
      → IsOnWay (way_of (levels_of s)) e → EntryCaught (dormant_on (levels_of s)) e
      → may_prune (levels_of s) (gate_on t.job.clauses (levels_of s) (with_heights (levels_of s) e ∷ floor_of (levels_of s))) ≡ true
      → IsOrdered (gate_pruned s (gate_on t.job.clauses (levels_of s) (with_heights (levels_of s) e ∷ floor_of (levels_of s)))
      (or_none (taken_alone t.job.clauses (with_heights (levels_of s) e ∷ floor_of (levels_of s)))) t).root
      (answers_in (plug (levels_of s) (Pending s.hold s.entry)))
  prune_preserved s o at running (EndEntry b) entry h m l = false_true l
  prune_preserved s o at running (CatchEntry c r f) entry h m l = false_true l
  prune_preserved s o at running (FindallEntry results list f) entry h m l = false_true l
  prune_preserved s o at running (PlainEntry f) entry h m l =
      let around = (placed_at t s i o).around in
      plain_moves t i q running s o f entry (λ x. IsOrdered x.root (answers_in (plug (levels_of s) (Pending s.hold s.entry))))
      (λ ball mark sleeps asked x falls taken clear takes. fallen_preserved t s around (order_at s o) (few_at s o) ball x taken asked)
      (λ n reach below items part all g gn gx clear es takes. cut_preserved t s around (order_at s o) (few_at s o) n
      (PlainEntry (with_items (by_heights (levels_of s) items) g)) es) h m l

  pub answers_preserved : (e : Event) → is_legal t e ≡ true → IsOrdered (after_event t e).root (answers_in t.root + answers_told t e)
  unfolding after_event gate_of
  answers_preserved (Claim w a) l = somewhere (claimable t) (λ s. with_status s (Pending (TakenBy w) s.entry) t)
      (λ s e. claimable_open t s e) (λ s o e. held s (TakenBy w) o)
  answers_preserved (Resume w a) l = somewhere (resumable t) (λ s. with_status s (Pending (TakenBy w) s.entry) t)
      (λ s e. resumable_open t s e) (λ s o e. held s (TakenBy w) o)
  answers_preserved (Suspend w a frozen) l = somewhere (taken_at w a t)
      (λ s. with_status s (Pending (gate_or_frozen frozen (gate_of t s)) s.entry) t) (λ s e. taken_at_open w a t s e)
      (λ s o e. held s (gate_or_frozen frozen (gate_of t s)) o)
  answers_preserved (Nodes w a k sizes) l = somewhere (taken_at w a t) (λ s. run_placed s k sizes (run_of t s k) t)
      (λ s e. taken_at_open w a t s e) (λ s o e. placed_preserved s k sizes (run_of t s k) o)
  answers_preserved (Empty w a k) l = somewhere (taken_at w a t) (λ s. closed_with s (credit_of k) t) (λ s e. taken_at_open w a t s e)
      (λ s o e. closed_preserved t s (placed_at t s i o).around (order_at s o) (few_at s o) (credit_of k) refl)
  answers_preserved (Collected w a k) l = somewhere (taken_at w a t)
      (λ s. closed_with s (record { inferences = k; answers = 0; records = results_of (run_of t s k) }) t)
      (λ s e. taken_at_open w a t s e)
      (λ s o e. closed_preserved t s (placed_at t s i o).around (order_at s o) (few_at s o)
      (record { inferences = k; answers = 0; records = results_of (run_of t s k) }) refl)
  answers_preserved (Lost w a) l = none_more t.root _ (order, refl)
  answers_preserved (Stop w) l = none_more t.root _ (order, refl)
  answers_preserved (Prune w a) l =
      let parts = legal_parts t (Prune w a) l in
      somewhere (taken_at w a t) (λ s. gate_pruned s (gate_of t s) (or_none (taken_alone t.job.clauses (spot_stack s))) t)
      (λ s e. taken_at_open w a t s e)
      (λ s o e. let at = known_at w a t s i e in let running = (going t parts.0).halted in prune_preserved s o at running s.entry refl
      at.placed.entry.0 (caught_down (levels_of s) (Pending s.hold s.entry) (root_at t s q running o).caught)
      (subst (λ x. at_spot x (λ s. may_prune (levels_of s) (gate_of t s)) ≡ true) e parts.1))
  answers_preserved (Answer w a true) l = false_true (legal_parts t (Answer w a true) l).1
  answers_preserved (Answer w a false) l = go (taken_at w a t) refl (legal_parts t (Answer w a false) l).1
      (going t (legal_parts t (Answer w a false) l).0).halted
    where
      go : (x : Option Spot) → taken_at w a t ≡ x → at_spot x (λ s. is_world_gate (gate_of t s) && is_spot_at a (leftmost t)) ≡ true
          → t.halted ≡ None → IsOrdered (where_some x t (λ s. world_moved s (taken_at_front t.job.clauses (spot_stack s) t.world) t)).root
          (answers_in t.root + answers_first t (leftmost t))
      go None e x running = false_true x
      go (Some s) e x running =
          let at = known_at w a t s i e in
          let o = taken_at_open w a t s e in
          let first = taken_first t w a s i e (and-right (is_world_gate (gate_of t s)) _ x) in
          let known = leftmost_known t i s first in
          let root = root_at t s q running o in
          let moved = stack_moved s (placed_at t s i o).around known.clear root (order_at s o) (few_at s o)
          (record t { world = (taken_at_front t.job.clauses (spot_stack s) t.world).0 }) t.job.clauses s.entry t.world
          at.placed.entry.0 (caught_down (levels_of s) (Pending s.hold s.entry) root.caught) in
          subst (λ y. IsOrdered (world_moved s (taken_at_front t.job.clauses (spot_stack s) t.world) t).root
          (answers_in t.root + answers_first t y)) (sym first)
          (at_root s o (world_moved s (taken_at_front t.job.clauses (spot_stack s) t.world) t).root (answers_at t s) moved)
