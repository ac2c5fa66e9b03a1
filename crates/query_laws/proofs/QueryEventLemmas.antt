-- Each event keeps the count of queries.
use Rattle.std.proofs.Common.{◌≡◌, ◌⊎◌, inl, inr, ℕ, zero, suc, ◌+◌, ◌-◌, ◌==◌, Bool, true, false, cond, List, [], ◌∷◌, map, length, take, drop, Option}
use Rattle.std.proofs.Common.{Some, None, refl, sym, ap, ◌∙◌, subst, arith}
use Rattle.std.specs.Prelude.{not, is_none, nat_lt}
use Rattle.au_term.specs.Term.{Term}
use Rattle.run_model.specs.Programs.Clauses.{Clause}
use Rattle.run_model.specs.Programs.Databases.{Database, without_clause}
use Rattle.run_model.specs.Programs.Jobs.{Query, Job}
use Rattle.run_model.specs.Goals.Worlds.{World, world_step}
use Rattle.run_model.specs.Goals.Outcomes.{Reply, Solutions, Ball, HaltNumber, GoesOnWith, EitherOf, TestOf, CutToScope}
use Rattle.run_model.specs.Goals.Outcomes.{CatchOf, FindallOf, Outcome, Replies, Controls, AskWorld}
use Rattle.run_model.specs.Goals.GoalOutcomes.{outcome_of}
use Rattle.run_model.specs.Machine.Items.{Item, GoalItem, CatchMark, CollectMark, RemovalItem, Continuation, with_items, without_marks}
use Rattle.run_model.specs.Machine.Items.{first_mark}
use Rattle.run_model.specs.Machine.Entries.{Entry, PlainEntry, CatchEntry, FindallEntry, EndEntry}
use Rattle.run_model.specs.Machine.Balls.{unwound}
use Rattle.tree_model.specs.Credits.{Credit, credit_of}
use Rattle.tree_model.specs.Nodes.{CutGate, BallGate, ChoiceNode, Hold, Ready, TakenBy, Numbered}
use Rattle.tree_model.specs.Nodes.{Alternatives, none, alternative, Status, Pending, Inner, single, entry_alternatives}
use Rattle.tree_model.specs.Levels.{Level, plug, Place, Spot, levels_of}
use Rattle.tree_model.specs.Floors.{renamed_continuation, height_of, with_heights, with_nodes, node_of, floor_of}
use Rattle.tree_model.specs.Gates.{ball_scope, is_caught_above, item_gate, goal_gate, gate_on}
use Rattle.tree_model.specs.PrivateRuns.{goal_alone, item_alone, taken_alone, private_run}
use Rattle.tree_model.specs.Pruning.{pruned, emptied}
use Rattle.tree_model.specs.Shapes.{further, guard_kind, guard_hold, placed_status, placed}
use Rattle.tree_model.specs.FrontGates.{Taken, Continues, Answered, Raises, Halts, QueryEnds, reply_taken, goal_at_front}
use Rattle.tree_model.specs.FrontGates.{removal_at_front, item_at_front, taken_at_front}
use Rattle.tree_model.specs.Events.{Event, Claim, Nodes, Empty, Collected, Lost, Suspend, Resume, Prune, Answer, Stop}
use Rattle.tree_model.specs.TreeStates.{TreeState, opened_node, ended}
use Rattle.tree_model.specs.Legality.{claimable, resumable, taken_at, gate_of, run_of, run_is_empty, run_gives_result, at_spot, is_allowed}
use Rattle.tree_model.specs.Legality.{is_legal}
use Rattle.tree_model.specs.Effects.{with_status, spending, closed_with, left_at, ball_falls, cut_at, or_none, gate_pruned, query_opens}
use Rattle.tree_model.specs.Effects.{front_taken, spot_stack, world_moved, run_placed, where_some, after_allowed, after_event}
use Rattle.tree_model.specs.PendingLists.{way_of}
use Rattle.tree_model.specs.Ways.{under_query, IsAwake, IsOnWay}
use Rattle.tree_model.specs.SoundTrees.{IsOpen}
use Rattle.tree_model.specs.CaughtTrees.{IsLastQuery}
use Rattle.tree_model.specs.LegalTrees.{IsLegalTree}
use Rattle.interleaving.proofs.ContextLemmas.{IsAround}
use Rattle.interleaving.proofs.LegalLemmas.{awake_entry, end_rests}
use Rattle.interleaving.proofs.OpenSpotLemmas.{IsOpenSpot, placed_at, claimable_open, resumable_open, taken_at_open}
use Rattle.au_term.proofs.LogicLemmas.{false_true, and-right}
use Rattle.query_laws.specs.QueriesCounted.{one_for, queries_among, queries_below, queries_above, CountsQueries, TakesEnd}
use Rattle.query_laws.proofs.QueryCountLemmas.{NoneBeside, placed_queries, none_beside}
use Rattle.query_laws.proofs.QueryClosingLemmas.{closing_queries, FallsWithin, ball_queries}
use Rattle.query_laws.proofs.QueryBallLemmas.{ball_within}

-- the same queries are left, and there are as many nodes of queries
abbrev SameQueries : TreeState → TreeState → Type 0
SameQueries t new = (new.queries ≡ t.queries) × (queries_below new.root ≡ queries_below t.root)

counted_on : (job : Job) (t new : TreeState) → SameQueries t new → CountsQueries job t → CountsQueries job new
counted_on job t new s k q further e = subst (λ n. drop n job.queries ≡ q ∷ further) (sym s.1) (k q further (sym s.0 ∙ e))

-- entries of nodes
no_entry_queries : (h : Hold) (es : List Entry) → queries_among (entry_alternatives h es) ≡ 0
no_entry_queries h [] = refl
no_entry_queries h (e ∷ es) = let k = no_entry_queries h es in omega (arith, k)

guard_kinds : (es : List Entry) → one_for (guard_kind es) ≡ 0
guard_kinds (CatchEntry c r f ∷ es) = refl
guard_kinds (FindallEntry results l f ∷ es) = refl
guard_kinds (PlainEntry f ∷ es) = refl
guard_kinds (EndEntry b ∷ es) = refl
guard_kinds [] = refl

no_placed_queries : (next : ℕ) (sizes : List ℕ) (es : List Entry) → queries_below (placed_status next sizes es) ≡ 0
no_placed_queries next [] [] = refl
no_placed_queries next [] (e ∷ es) = refl
no_placed_queries next (size ∷ sizes) es =
    let rest = length es - further size in
    let k = guard_kinds (drop rest es) in
    let first = no_placed_queries (suc next) sizes (take rest es) in
    let others = no_entry_queries (guard_hold (guard_kind (drop rest es))) (drop rest es) in
    omega (arith, k, first, others)

-- a cut empties nothing of a query's
none_emptied : (others : Alternatives) → queries_among (emptied others) ≡ 0
none_emptied none = refl
none_emptied (alternative sp status others) = let k = none_emptied others in omega (arith, k)

pruned_beside : (n : ℕ) (levels : List Level) → NoneBeside levels
    → NoneBeside (pruned n levels) × (queries_above (pruned n levels) ≡ queries_above levels)
pruned_beside n [] h = (tt, refl)
pruned_beside n (v ∷ up) h = go (v.number == n) (pruned_beside n up h.2)
  where
    go : (b : Bool) → NoneBeside (pruned n up) × (queries_above (pruned n up) ≡ queries_above up) →
        let new = cond b (v ∷ up) (record v { right = emptied v.right } ∷ pruned n up) in
        NoneBeside new × (queries_above new ≡ queries_above (v ∷ up))
    go true k = (h, refl)
    go false k = ((h.0, none_emptied v.right, k.0), ap (λ m. one_for v.kind + m) k.1)

-- what is left of a list after one more
one_further : (n : ℕ) (xs : List Query) (x : Query) (ys : List Query) → drop n xs ≡ x ∷ ys → drop (suc n) xs ≡ ys
one_further zero xs x ys e = ap (drop 1) e
one_further (suc n) [] x ys e = let no_way : ⊥ = cc in absurd no_way
one_further (suc n) (y ∷ xs) x ys e = one_further n xs x ys e

-- round a place that is open
module _ (t : TreeState) (s : Spot) (last : IsLastQuery (plug (levels_of s) (Pending s.hold s.entry)))
    (inside : plug (levels_of s) (Pending s.hold s.entry) ≡ t.root) where
  beside : NoneBeside (levels_of s)
  beside = none_beside (levels_of s) (Pending s.hold s.entry) refl last

  pub opened_above : queries_below t.root ≡ queries_above (levels_of s)
  opened_above =
      let h : queries_below (plug (levels_of s) (Pending s.hold s.entry)) ≡ queries_above (levels_of s) + 0 = placed_queries (levels_of s)
      (Pending s.hold s.entry) beside in
      ap queries_below (sym inside) ∙ (h ∙ (let z : queries_above (levels_of s) + 0 ≡ queries_above (levels_of s) = omega arith in z))

  -- a status without a query takes its place
  put_there : (k : ℕ) (status : Status) → queries_below status ≡ 0 → queries_below (plug (spending k (levels_of s)) status)
      ≡ queries_below t.root
  put_there k status z =
      let h : queries_below (plug (spending k (levels_of s)) status) ≡ queries_above (levels_of s) + queries_below status = placed_queries
      (spending k (levels_of s)) status beside in
      let o = opened_above in
      omega (arith, h, o, z)

  held : (h : Hold) → SameQueries t (with_status s (Pending h s.entry) t)
  held h =
      let k : queries_below (plug (levels_of s) (Pending h s.entry)) ≡ queries_above (levels_of s) + 0 = placed_queries (levels_of s)
      (Pending h s.entry) beside in
      let o = opened_above in
      (refl, omega (arith, k, o))

  -- a private run
  published : (k : ℕ) (sizes : List ℕ) (o : Option (List Entry)) → SameQueries t (run_placed s k sizes o t)
  published k sizes None = (refl, refl)
  published k sizes (Some es) = (refl, put_there k (placed t.next sizes (levels_of s) es) (no_placed_queries t.next sizes _))

  -- a cut
  cut_kept : (n : ℕ) (es : List Entry) → SameQueries t (cut_at s n es t)
  cut_kept n [] = (refl, refl)
  cut_kept n (e ∷ es) =
      let p = pruned_beside n (spending 1 (levels_of s)) beside in
      let new = Inner (single t.next (with_nodes (node_of (levels_of s)) e)) in
      let h : queries_below (plug (pruned n (spending 1 (levels_of s))) new) ≡ queries_above (pruned n (spending 1 (levels_of s))) + 0 =
      placed_queries (pruned n (spending 1 (levels_of s))) new p.0 in
      let k : queries_above (pruned n (spending 1 (levels_of s))) ≡ queries_above (levels_of s) = p.1 in
      let o = opened_above in
      (refl, omega (arith, h, k, o))

  -- a ball
  fall_kept : (es : List Entry) → FallsWithin (ball_scope (levels_of s) es) (levels_of s) → SameQueries t (ball_falls s es t)
  fall_kept [] f = (refl, refl)
  fall_kept (e ∷ es) f = (
    refl,
    ball_queries t.next (ball_scope (levels_of s) (e ∷ es)) (levels_of s) (credit_of 1) (with_nodes (node_of (levels_of s)) e) beside f
        ∙ sym opened_above,
  )

  falls_within : (ball : Term) (mark : Option ℕ)
      → FallsWithin (ball_scope (levels_of s) (unwound ball mark (floor_of (levels_of s)))) (levels_of s)
  falls_within ball mark = ball_within ball (levels_of s) (Pending s.hold s.entry) mark last

  goal_kept : (o : Outcome) (h : ℕ) (f : Continuation ℕ)
      → SameQueries t (gate_pruned s (goal_gate (levels_of s) o h f (floor_of (levels_of s))) (goal_alone o h f (floor_of (levels_of s))) t)
  goal_kept (AskWorld goal) h f = (refl, refl)
  goal_kept (Replies (Solutions ss)) h f = (refl, refl)
  goal_kept (Replies (HaltNumber k)) h f = (refl, refl)
  goal_kept (Replies (Ball b)) h f = go (is_caught_above (levels_of s) es)
    where
      es : List Entry
      es = unwound b (first_mark f.items) (floor_of (levels_of s))

      go : (c : Bool) → SameQueries t (gate_pruned s (cond c None (Some (BallGate (ball_scope (levels_of s) es)))) es t)
      go true = (refl, refl)
      go false = fall_kept es (falls_within b (first_mark f.items))
  goal_kept (Controls CutToScope) h f = go (nat_lt h (length (levels_of s)))
    where
      go : (c : Bool) → SameQueries t (gate_pruned s (cond c (Some (CutGate (node_of (levels_of s) h))) None)
          (goal_alone (Controls CutToScope) h f (floor_of (levels_of s))) t)
      go true = cut_kept (node_of (levels_of s) h) (goal_alone (Controls CutToScope) h f (floor_of (levels_of s)))
      go false = (refl, refl)
  goal_kept (Controls (GoesOnWith gs)) h f = (refl, refl)
  goal_kept (Controls (EitherOf gs others)) h f = (refl, refl)
  goal_kept (Controls (TestOf gs thens others)) h f = (refl, refl)
  goal_kept (Controls (CatchOf goal catcher recovery)) h f = (refl, refl)
  goal_kept (Controls (FindallOf template goal list)) h f = (refl, refl)

  item_kept : (clauses : List Clause) (items : List (Item ℕ)) (f : Continuation ℕ)
      → SameQueries t (gate_pruned s (item_gate clauses (levels_of s) items f (floor_of (levels_of s)))
      (or_none (item_alone clauses items f (floor_of (levels_of s)))) t)
  item_kept clauses [] f = (refl, refl)
  item_kept clauses (GoalItem g h ∷ items) f = goal_kept (outcome_of clauses g f.next) h (with_items items f)
  item_kept clauses (CatchMark h ∷ items) f = (refl, refl)
  item_kept clauses (CollectMark x h ∷ items) f = (refl, refl)
  item_kept clauses (RemovalItem number ∷ items) f = (refl, refl)

  prune_kept : (clauses : List Clause) (e : Entry) → SameQueries t (gate_pruned s (gate_on clauses (levels_of s) (e ∷ floor_of (levels_of s)))
      (or_none (taken_alone clauses (e ∷ floor_of (levels_of s)))) t)
  prune_kept clauses (PlainEntry f) = item_kept clauses (without_marks f.items) f
  prune_kept clauses (EndEntry b) = (refl, refl)
  prune_kept clauses (CatchEntry c r f) = (refl, refl)
  prune_kept clauses (FindallEntry results l f) = (refl, refl)

  -- the end of a query
  opens_next : (job : Job) (queries : List Query) → t.queries ≡ queries → CountsQueries job t → CountsQueries job (query_opens s queries t)
  opens_next job [] e k q further z = let both : [] ≡ q ∷ further = sym e ∙ z in let no_way : ⊥ = cc in absurd no_way
  opens_next job (p ∷ ps) e k q further z =
      let h : queries_below (plug (spending 1 (levels_of s)) (Inner (opened_node t.next p))) ≡ queries_above (levels_of s) + 1 =
      placed_queries (spending 1 (levels_of s)) (Inner (opened_node t.next p)) beside in
      let o = opened_above in
      let one : queries_below (plug (spending 1 (levels_of s)) (Inner (opened_node t.next p))) ≡ suc (queries_below t.root) = omega
      (arith, h, o) in
      subst (λ n. drop n job.queries ≡ q ∷ further) (sym one) (one_further (queries_below t.root) job.queries p ps (k p ps e) ∙ z)

  -- what closes, below the goals of a query
  module _ (around : IsAround (levels_of s) IsOpen) where
    closed_kept : under_query (way_of (levels_of s)) ≡ true → (c : Credit) → SameQueries t (closed_with s c t)
    closed_kept u c = (refl, closing_queries t.next (levels_of s) around u beside c ∙ sym opened_above)

    left_kept : under_query (way_of (levels_of s)) ≡ true → (es : List Entry) → SameQueries t (left_at s es t)
    left_kept u [] = closed_kept u (credit_of 1)
    left_kept u (e ∷ es) =
        let named = map (with_nodes (node_of (levels_of s))) (e ∷ es) in
        let k = no_entry_queries Ready named in
        (refl, put_there 1 (Inner (Numbered t.next ChoiceNode (entry_alternatives Ready named))) (omega (arith, k)))

    -- what is taken at the front of a query's goals closes there, and its ball lands within the query
    abbrev IsWithin : Taken → Type 0
    IsWithin (Continues es) = under_query (way_of (levels_of s)) ≡ true
    IsWithin Answered = under_query (way_of (levels_of s)) ≡ true
    IsWithin (Raises es) = FallsWithin (ball_scope (levels_of s) es) (levels_of s)
    IsWithin (Halts k) = Unit {0}
    IsWithin QueryEnds = ⊥

    front_kept : (taken : Taken) → IsWithin taken → SameQueries t (front_taken s taken t)
    front_kept (Continues es) u = left_kept u es
    front_kept Answered u = closed_kept u _
    front_kept (Raises es) f = fall_kept es f
    front_kept (Halts n) u = (refl, put_there 1 (Pending s.hold s.entry) refl)
    front_kept QueryEnds u = absurd u

    reply_within : under_query (way_of (levels_of s)) ≡ true → (r : Reply) (f : Continuation ℕ)
        → IsWithin (reply_taken r f (floor_of (levels_of s)))
    reply_within u (Solutions ss) f = u
    reply_within u (Ball b) f = falls_within b (first_mark f.items)
    reply_within u (HaltNumber n) f = tt

    goal_within : under_query (way_of (levels_of s)) ≡ true → (clauses : List Clause) (o : Outcome) (f : Continuation ℕ) (w : World)
        → IsWithin (goal_at_front clauses o f (floor_of (levels_of s)) w).1
    goal_within u clauses (AskWorld goal) f w = reply_within u (world_step clauses goal f.next w).1 f
    goal_within u clauses (Replies r) f w = reply_within u r f
    goal_within u clauses (Controls form) f w = u

    removal_within : under_query (way_of (levels_of s)) ≡ true → (o : Option Database) (f : Continuation ℕ) (w : World)
        → IsWithin (removal_at_front o f w).1
    removal_within u (Some db) f w = u
    removal_within u None f w = u

    item_within : under_query (way_of (levels_of s)) ≡ true → (clauses : List Clause) (items : List (Item ℕ)) (f : Continuation ℕ) (w : World)
        → IsWithin (item_at_front clauses items f (floor_of (levels_of s)) w).1
    item_within u clauses [] f w = u
    item_within u clauses (GoalItem g h ∷ items) f w = goal_within u clauses (outcome_of clauses g f.next) (with_items items f) w
    item_within u clauses (RemovalItem number ∷ items) f w = removal_within u (without_clause number w.database) (with_items items f) w
    item_within u clauses (CatchMark h ∷ items) f w = u
    item_within u clauses (CollectMark x h ∷ items) f w = u

    front_within : (clauses : List Clause) (f : Continuation ℕ) (w : World) → IsOnWay (way_of (levels_of s)) (PlainEntry f)
        → IsWithin (taken_at_front clauses (with_heights (levels_of s) (PlainEntry f) ∷ floor_of (levels_of s)) w).1
    front_within clauses f w i =
        let g : Continuation ℕ = renamed_continuation (height_of (levels_of s)) (λ n. height_of (levels_of s) n - 1) f in
        item_within i.asked clauses (without_marks g.items) g w

-- an end takes no private step: what a run closes is below the goals of a query
abbrev ClosesEnd : (Option (List Entry) → Bool) → Type 0
ClosesEnd closes = (closes None ≡ false) × ((b : Option Term) → closes (Some (EndEntry b ∷ [])) ≡ false)

run_asked : (closes : Option (List Entry) → Bool) (t : TreeState) (s : Spot) (e : Entry) (k : ℕ) → ClosesEnd closes → IsAwake e
    → IsOnWay (way_of (levels_of s)) e → closes (private_run t.job.clauses (levels_of s) (with_heights (levels_of s) e) k) ≡ true
    → under_query (way_of (levels_of s)) ≡ true
unfolding private_run
run_asked closes t s (PlainEntry f) k z a i l = i.asked
run_asked closes t s (EndEntry b) zero z a i l = false_true (sym (z.1 b) ∙ l)
run_asked closes t s (EndEntry b) (suc k) z a i l = false_true (sym z.0 ∙ (sym (ap closes (end_rests t s b k)) ∙ l))
run_asked closes t s (CatchEntry c r f) k z a i l = absurd a
run_asked closes t s (FindallEntry results m f) k z a i l = absurd a

where_kept : (t : TreeState) (o : Option Spot) (new : Spot → TreeState) → ((s : Spot) → o ≡ Some s → SameQueries t (new s))
    → SameQueries t (where_some o t new)
where_kept t None new f = (refl, refl)
where_kept t (Some s) new f = f s refl

at_taken : (t : TreeState) (o : Option Spot) (allowed : Spot → Bool) (s : Spot) → o ≡ Some s → at_spot o allowed ≡ true → allowed s ≡ true
at_taken t None allowed s e l = false_true l
at_taken t (Some r) allowed s e l = let same : r ≡ s = cc in subst (λ x. allowed x ≡ true) same l

-- the events
module _ (t : TreeState) (h : IsLegalTree t) where
  last_at : (s : Spot) → IsOpenSpot t.root s → IsLastQuery (plug (levels_of s) (Pending s.hold s.entry))
  last_at s o = subst IsLastQuery (sym o.inside) h.caught.last

  run_closes : (w : ℕ) (a : Place) (k : ℕ) (closes : Option (List Entry) → Bool) (c : Spot → Credit) → ClosesEnd closes
      → at_spot (taken_at w a t) (λ s. closes (run_of t s k)) ≡ true
      → SameQueries t (where_some (taken_at w a t) t (λ s. closed_with s (c s) t))
  unfolding run_of
  run_closes w a k closes c z l = where_kept t (taken_at w a t) _ (λ s e.
      let o = taken_at_open w a t s e in
      let p = placed_at t s h.sound o in
      closed_kept t s (last_at s o) o.inside p.around
      (run_asked closes t s s.entry k z (awake_entry s.hold s.entry o.opened p.entry.1) p.entry.0
      (at_taken t (taken_at w a t) (λ r. closes (run_of t r k)) s e l)) (c s))

  -- what is taken at the front, by the entry that is out
  abbrev moved : Spot → Entry → TreeState
  moved s e = world_moved s (taken_at_front t.job.clauses (with_heights (levels_of s) e ∷ floor_of (levels_of s)) t.world) t

  answer_kept : (w : ℕ) (a : Place) (s : Spot) → taken_at w a t ≡ Some s → (e : Entry) → s.entry ≡ e → IsAwake e
      → IsOnWay (way_of (levels_of s)) e → SameQueries t (moved s e) ⊎ TakesEnd t (Answer w a false)
  answer_kept w a s k (EndEntry b) e i j = inr
      (record { worker = w; place = a; spot = s; ball = b; out = k; ends = e; is = refl })
  answer_kept w a s k (CatchEntry c r f) e i j = absurd i
  answer_kept w a s k (FindallEntry results l f) e i j = absurd i
  answer_kept w a s k (PlainEntry f) e i j =
      let o = taken_at_open w a t s k in
      let p = placed_at t s h.sound o in
      let r = taken_at_front t.job.clauses (with_heights (levels_of s) (PlainEntry f) ∷ floor_of (levels_of s)) t.world in
      let new = record t { world = r.0 } in
      inl (front_kept new s (last_at s o) o.inside p.around r.1
      (front_within new s (last_at s o) o.inside p.around t.job.clauses f t.world j))

  allowed_kept : (e : Event) → is_allowed t e ≡ true → SameQueries t (after_allowed t e) ⊎ TakesEnd t e
  unfolding gate_of
  allowed_kept (Claim w a) l = inl (where_kept t (claimable t) _ (λ s e.
      let o = claimable_open t s e in
      held t s (last_at s o) o.inside (TakenBy w)))
  allowed_kept (Resume w a) l = inl (where_kept t (resumable t) _ (λ s e.
      let o = resumable_open t s e in
      held t s (last_at s o) o.inside (TakenBy w)))
  allowed_kept (Suspend w a frozen) l = inl (where_kept t (taken_at w a t) _ (λ s e.
      let o = taken_at_open w a t s e in
      held t s (last_at s o) o.inside _))
  allowed_kept (Nodes w a k sizes) l = inl (where_kept t (taken_at w a t) _ (λ s e.
      let o = taken_at_open w a t s e in
      published t s (last_at s o) o.inside k sizes (run_of t s k)))
  allowed_kept (Empty w a k) l = inl (run_closes w a k run_is_empty (λ s. credit_of k) (refl, λ b. refl) l)
  allowed_kept (Collected w a k) l = inl (run_closes w a k run_gives_result _ (refl, λ b. refl) l)
  allowed_kept (Lost w a) l = inl (refl, refl)
  allowed_kept (Stop w) l = inl (refl, refl)
  allowed_kept (Prune w a) l = inl (where_kept t (taken_at w a t) _ (λ s e.
      let o = taken_at_open w a t s e in
      prune_kept t s (last_at s o) o.inside t.job.clauses (with_heights (levels_of s) s.entry)))
  allowed_kept (Answer w a true) l = false_true l
  allowed_kept (Answer w a false) l = go (taken_at w a t) refl
    where
      go : (o : Option Spot) → taken_at w a t ≡ o
          → SameQueries t (where_some o t (λ s. world_moved s (taken_at_front t.job.clauses (spot_stack s) t.world) t))
          ⊎ TakesEnd t (Answer w a false)
      go None e = inl (refl, refl)
      go (Some s) e =
          let o = taken_at_open w a t s e in
          let p = placed_at t s h.sound o in
          answer_kept w a s e s.entry refl (awake_entry s.hold s.entry o.opened p.entry.1) p.entry.0

  -- the end of a query
  end_counts : (job : Job) (e : Event) → TakesEnd t e → CountsQueries job t → CountsQueries job (after_allowed t e)
  end_counts job e k counts =
      let s = k.spot in
      let o = taken_at_open k.worker k.place t s k.out in
      let new = record t { world = (taken_at_front t.job.clauses (EndEntry k.ball ∷ floor_of (levels_of s)) t.world).0 } in
      subst (λ x. CountsQueries job (after_allowed t x)) (sym k.is)
      (subst (λ r. CountsQueries job (where_some r t (λ s. world_moved s (taken_at_front t.job.clauses (spot_stack s) t.world) t))) (sym k.out)
      (subst (λ x. CountsQueries job (moved s x)) (sym k.ends) (opens_next new s (last_at s o) o.inside job new.queries refl counts)))

  event_kept : (e : Event) → is_legal t e ≡ true → SameQueries t (after_allowed t e) ⊎ TakesEnd t e
  unfolding is_legal
  event_kept e l = allowed_kept e (and-right (is_none (ended t)) (is_allowed t e) (and-right (not t.stopped) _ l))

  pub event_counts : (job : Job) → CountsQueries job t → (e : Event) → is_legal t e ≡ true → CountsQueries job (after_event t e)
  unfolding after_event
  event_counts job counts e l = go (event_kept e l)
    where
      go : SameQueries t (after_allowed t e) ⊎ TakesEnd t e → CountsQueries job (after_allowed t e)
      go (inl k) = counted_on job t (after_allowed t e) k counts
      go (inr k) = end_counts job e k counts

  pub event_opens : (e : Event) → is_legal t e ≡ true → ((after_event t e).queries ≡ t.queries) ⊎ TakesEnd t e
  unfolding after_event
  event_opens e l = go (event_kept e l)
    where
      go : SameQueries t (after_allowed t e) ⊎ TakesEnd t e → ((after_allowed t e).queries ≡ t.queries) ⊎ TakesEnd t e
      go (inl k) = inl k.0
      go (inr k) = inr k
