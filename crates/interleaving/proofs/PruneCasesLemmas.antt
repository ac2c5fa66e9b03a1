-- A prune is a cut to a node of the branch, or a ball that lands at one.
use Rattle.std.proofs.Common.{◌≡◌, ℕ, suc, ◌==◌, Bool, true, false, cond, List, [], ◌∷◌, map, length, Option, Some, None, refl, sym, ap}
use Rattle.std.proofs.Common.{◌∙◌, subst, arith}
use Rattle.std.specs.Prelude.{nat_lt}
use Rattle.au_term.specs.Term.{Term}
use Rattle.run_model.specs.Goals.GoalOutcomes.{outcome_of}
use Rattle.run_model.specs.Machine.Balls.{unwound}
use Rattle.run_model.specs.Goals.Outcomes.{Solutions, Ball, HaltNumber, GoesOnWith, EitherOf, TestOf, CutToScope, CatchOf, FindallOf}
use Rattle.run_model.specs.Goals.Outcomes.{Outcome}
use Rattle.run_model.specs.Goals.Outcomes.{Replies, Controls, AskWorld}
use Rattle.run_model.specs.Machine.Items.{Item, GoalItem, CatchMark, CollectMark, RemovalItem, Continuation, first_mark, with_items}
use Rattle.run_model.specs.Machine.Items.{without_marks}
use Rattle.run_model.specs.Machine.Entries.{Entry, PlainEntry}
use Rattle.tree_model.specs.Nodes.{CutGate, BallGate, Pending}
use Rattle.tree_model.specs.Levels.{Level, Spot, levels_of}
use Rattle.tree_model.specs.Floors.{height_of, floor_of, node_of, with_heights, renamed_item}
use Rattle.tree_model.specs.Gates.{ball_scope, is_caught_above, ball_gate, control_gate, goal_gate, item_gate, gate_on}
use Rattle.tree_model.specs.Orders.{levels_below, is_cleared}
use Rattle.tree_model.specs.PrivateRuns.{goal_alone, item_alone, taken_alone}
use Rattle.tree_model.specs.TreeStates.{TreeState}
use Rattle.tree_model.specs.Legality.{may_prune}
use Rattle.tree_model.specs.Effects.{ball_falls, cut_at, or_none, gate_pruned}
use Rattle.tree_model.specs.PendingLists.{way_of, scope_on, named_continuation}
use Rattle.tree_model.specs.Ways.{in_reach, way_from, AreScoped, under_query, IsAsked, IsOnWay}
use Rattle.tree_model.specs.SoundTrees.{IsOpen, IsSoundTree}
use Rattle.tree_model.specs.CaughtTrees.{MarksCaught, IsCaughtTree}
use Rattle.tree_model.specs.Elements.{Name, Plain}
use Rattle.interleaving.specs.Machine.{Infers, Seek}
use Rattle.interleaving.specs.Scopes.{Thrown, Scope, act, item_act, goal_act}
use Rattle.interleaving.proofs.WayLemmas.{reach-on}
use Rattle.interleaving.proofs.RoundtripLemmas.{by_heights, node_height}
use Rattle.interleaving.proofs.GrowingLemmas.{around_path}
use Rattle.interleaving.proofs.OpenSpotLemmas.{IsOpenSpot}
use Rattle.interleaving.proofs.PlacedEntryLemmas.{marks_dropped, marks_heights, rest_asked}
use Rattle.interleaving.proofs.ClockLemmas.{AreClear}
use Rattle.interleaving.proofs.HaltMoveLemmas.{dropped_names}
use Rattle.interleaving.proofs.ListScopeLemmas.{dormant_on}
use Rattle.interleaving.proofs.FrontCloseLemmas.{bare}
use Rattle.interleaving.proofs.CaughtEventLemmas.{marks_without}
use Rattle.interleaving.proofs.BallLevelLemmas.{clear_below}
use Rattle.interleaving.proofs.CatchingLemmas.{Catching, catching, catching_entries, MarkIsDormant, IsTaken, ball_scope_falls}
use Rattle.interleaving.proofs.CatchingLemmas.{catching_taken}
use Rattle.interleaving.proofs.CatchingLemmas.{first_height}
use Rattle.interleaving.proofs.CatchingLemmas.{first_dormant}
use Rattle.interleaving.proofs.BallSearchLemmas.{mark_name, first_name}
use Rattle.interleaving.proofs.PrunedBallLemmas.{placed_here, root_here}
use Rattle.au_term.proofs.LogicLemmas.{false_true}

module _ (t : TreeState) (i : IsSoundTree t) (k : IsCaughtTree t) (running : t.halted ≡ None) (s : Spot) (o : IsOpenSpot t.root s)
    (f : Continuation ℕ) (entry : s.entry ≡ PlainEntry f) (Moves : TreeState → Type 0)
    (falls : (ball : Term) (mark : Option ℕ) → MarkIsDormant (levels_of s) mark → under_query (way_of (levels_of s)) ≡ true → (x : Catching)
    → catching ball (levels_of s) mark ≡ x → IsTaken ball (levels_of s) x
    → AreClear (levels_below (Some (ball_scope (levels_of s) (catching_entries ball x))) (levels_of s))
    → act t.job.clauses (bare t.job.clauses (0 ∷ length s.level.left ∷ s.level.number ∷ [])
    (named_continuation (way_of (levels_of s)) f))
    ≡ Infers (Seek (Thrown ball (mark_name (way_of (levels_of s)) mark) (0 ∷ length s.level.left ∷ s.level.number ∷ [])))
    → Moves (ball_falls s (catching_entries ball x) t))
    (cuts : (n : ℕ) → in_reach (way_of (levels_of s)) n ≡ true → (s.level.number == n) ≡ false → (items : List (Item ℕ))
    → AreScoped (way_from (way_of (levels_of s)) n) items → AreScoped (way_of (levels_of s)) items → (g : Continuation ℕ) → g.named
    ≡ f.named → g.next ≡ f.next → AreClear (levels_below (Some n) (levels_of s)) → (es : List Entry)
    → act t.job.clauses (bare t.job.clauses (0 ∷ length s.level.left ∷ s.level.number ∷ [])
    (named_continuation (way_of (levels_of s)) f))
    ≡ Infers (Seek (Scope (scope_on (way_of (levels_of s)) n)
    (Plain (0 ∷ length s.level.left ∷ s.level.number ∷ [])
    (record {
      items = map (renamed_item (scope_on (way_of (levels_of s))) (scope_on (way_of (levels_of s)))) items;
      named =
          f.named;
      next = f.next;
    }))))
    → Moves (cut_at s n (PlainEntry (with_items (by_heights (levels_of s) items) g) ∷ es) t)) where
  abbrev levels : List Level
  levels = levels_of s

  abbrev own : Name
  own = 0 ∷ length s.level.left ∷ s.level.number ∷ []

  abbrev named : Continuation Name
  named = named_continuation (way_of (levels_of s)) f

  abbrev sc : ℕ → Name
  sc = scope_on (way_of (levels_of s))

  module _ (goal : Term) (n : ℕ) (items : List (Item ℕ)) (q : without_marks f.items ≡ GoalItem goal n ∷ items)
      (reach : in_reach (way_of (levels_of s)) n ≡ true) (part : AreScoped (way_from (way_of (levels_of s)) n) items)
      (asked : IsAsked (way_of (levels_of s)) items) (marks : MarksCaught (dormant_on (levels_of s)) items) (g : Continuation ℕ)
      (same_named : g.named ≡ f.named) (same_next : g.next ≡ f.next) where
    abbrev rest : Continuation Name
    rest = record { items = map (renamed_item sc sc) items; named = f.named; next = f.next }

    abbrev high : Continuation ℕ
    high = with_items (by_heights (levels_of s) items) g

    acts : act t.job.clauses (bare t.job.clauses own named) ≡ goal_act t.job.clauses (outcome_of t.job.clauses goal f.next) own (sc n) rest
    acts = ap (λ is. item_act t.job.clauses is own (with_items (without_marks named.items) named))
        (dropped_names sc sc f.items ∙ ap (map (renamed_item sc sc)) q)

    thrown : (ball : Term) → outcome_of t.job.clauses goal f.next ≡ Replies (Ball ball) → (es : List Entry)
        → unwound ball (first_mark (by_heights (levels_of s) items)) (floor_of (levels_of s)) ≡ es
        → may_prune (levels_of s) (ball_gate (levels_of s) es) ≡ true → Moves (gate_pruned s (ball_gate (levels_of s) es) es t)
    thrown ball outcome es lands l =
        let p = placed_here t i k running s o f entry in
        let root = root_here t i k running s o f entry in
        let status = Pending s.hold s.entry in
        let mark = first_mark items in
        let sleeps = first_dormant levels items marks in
        let x = catching ball levels mark in
        let same : catching_entries ball x ≡ es = sym (ap (λ m. unwound ball m (floor_of levels)) (first_height levels items)
        ∙ ball_scope_falls ball levels status mark p.around root.caught sleeps) ∙ lands in
        let takes : act t.job.clauses (bare t.job.clauses own named) ≡ Infers (Seek (Thrown ball (mark_name (way_of levels) mark) own)) =
        acts ∙ (ap (λ x. goal_act t.job.clauses x own (sc n) rest) outcome
        ∙ ap (λ m. Infers (Seek (Thrown ball m own))) (first_name (way_of levels) items)) in
        subst (λ es. may_prune levels (ball_gate levels es) ≡ true → Moves (gate_pruned s (ball_gate levels es) es t)) same
        (by_gate (catching_entries ball x) (λ z. falls ball mark sleeps asked.asked x refl
        (catching_taken ball levels status mark p.around root.caught sleeps)
        (clear_below (ball_scope levels (catching_entries ball x)) levels z) takes)) l
      where
        by_gate : (es : List Entry) → (is_cleared (Some (ball_scope levels es)) levels ≡ true → Moves (ball_falls s es t))
            → may_prune levels (ball_gate levels es) ≡ true → Moves (gate_pruned s (ball_gate levels es) es t)
        by_gate es f l = go (is_caught_above levels es) l
          where
            go : (b : Bool) → may_prune levels (cond b None (Some (BallGate (ball_scope levels es)))) ≡ true
                → Moves (gate_pruned s (cond b None (Some (BallGate (ball_scope levels es)))) es t)
            go true z = false_true z
            go false z = f z

    cut : outcome_of t.job.clauses goal f.next ≡ Controls CutToScope → (es : List Entry)
        → may_prune (levels_of s) (control_gate (levels_of s) CutToScope (height_of (levels_of s) n)) ≡ true
        → Moves (gate_pruned s (control_gate (levels_of s) CutToScope (height_of (levels_of s) n)) (PlainEntry high ∷ es) t)
    cut outcome es l = go (nat_lt (height_of levels n) (length levels)) refl l
      where
        back : node_of levels (height_of levels n) ≡ n
        back = node_height levels n (reach-on (way_of levels) n reach)

        takes : act t.job.clauses (bare t.job.clauses own named) ≡ Infers (Seek (Scope (sc n) (Plain own rest)))
        takes = acts ∙ ap (λ x. goal_act t.job.clauses x own (sc n) rest) outcome

        below : nat_lt (height_of levels n) (length levels) ≡ true → (s.level.number == n) ≡ false
        below z = by_number (s.level.number == n) refl
          where
            by_number : (b : Bool) → (s.level.number == n) ≡ b → b ≡ false
            by_number false e = refl
            by_number true e =
                let high : height_of levels n ≡ suc (length s.above) = ap (λ b. cond b (suc (length s.above)) (height_of s.above n)) e in
                let less : nat_lt (suc (length s.above)) (suc (length s.above)) ≡ true = ap (λ m. nat_lt m (suc (length s.above)))
                (sym high) ∙ z in
                let no_way : ⊥ = grind arith in absurd no_way

        go : (b : Bool) → nat_lt (height_of levels n) (length levels) ≡ b
            → may_prune levels (cond b (Some (CutGate (node_of levels (height_of levels n)))) None) ≡ true
            → Moves (gate_pruned s (cond b (Some (CutGate (node_of levels (height_of levels n)))) None) (PlainEntry high ∷ es) t)
        go false e z = false_true z
        go true e z = subst (λ m. Moves (cut_at s m (PlainEntry high ∷ es) t)) (sym back)
            (cuts n reach (below e) items part asked.scoped g same_named same_next
            (clear_below n levels (subst (λ m. is_cleared (Some m) levels ≡ true) back z)) es takes)

    goal_moves : (x : Outcome) → outcome_of t.job.clauses goal f.next ≡ x
        → may_prune (levels_of s) (goal_gate (levels_of s) x (height_of (levels_of s) n) (with_items (by_heights (levels_of s) items) g)
        (floor_of (levels_of s))) ≡ true
        → Moves (gate_pruned s (goal_gate (levels_of s) x (height_of (levels_of s) n) (with_items (by_heights (levels_of s) items) g)
        (floor_of (levels_of s))) (goal_alone x (height_of (levels_of s) n) (with_items (by_heights (levels_of s) items) g)
        (floor_of (levels_of s))) t)
    goal_moves (AskWorld ask) z l = false_true l
    goal_moves (Replies (Solutions ss)) z l = false_true l
    goal_moves (Replies (HaltNumber j)) z l = false_true l
    goal_moves (Replies (Ball b)) z l = thrown b z _ refl l
    goal_moves (Controls CutToScope) z l = cut z _ l
    goal_moves (Controls (GoesOnWith gs)) z l = false_true l
    goal_moves (Controls (EitherOf gs others)) z l = false_true l
    goal_moves (Controls (TestOf gs thens others)) z l = false_true l
    goal_moves (Controls (CatchOf goal catcher recovery)) z l = false_true l
    goal_moves (Controls (FindallOf template goal list)) z l = false_true l

  items_move : (g : Continuation ℕ) → g.named ≡ f.named → g.next ≡ f.next → (items : List (Item ℕ)) → without_marks f.items ≡ items
      → under_query (way_of (levels_of s)) ≡ true → AreScoped (way_of (levels_of s)) items → MarksCaught (dormant_on (levels_of s)) items
      → may_prune (levels_of s) (item_gate t.job.clauses (levels_of s) (by_heights (levels_of s) items) g (floor_of (levels_of s))) ≡ true
      → Moves (gate_pruned s (item_gate t.job.clauses (levels_of s) (by_heights (levels_of s) items) g (floor_of (levels_of s)))
      (or_none (item_alone t.job.clauses (by_heights (levels_of s) items) g (floor_of (levels_of s)))) t)
  items_move g gn gx [] q u i m l = false_true l
  items_move g gn gx (CatchMark n ∷ items) q u i m l = false_true l
  items_move g gn gx (CollectMark x n ∷ items) q u i m l = false_true l
  items_move g gn gx (RemovalItem n ∷ items) q u i m l = false_true l
  items_move g gn gx (GoalItem x n ∷ items) q u j m l =
      goal_moves x n items q j.0 j.1 (rest_asked levels n items
      (around_path levels IsOpen (placed_here t i k running s o f entry).around) u j.0 j.1) m g gn gx
      (outcome_of t.job.clauses x g.next) (ap (outcome_of t.job.clauses x) (sym gx)) l

  pub plain_moves : IsOnWay (way_of (levels_of s)) (PlainEntry f) → MarksCaught (dormant_on (levels_of s)) f.items
      → may_prune (levels_of s) (gate_on t.job.clauses (levels_of s)
      (with_heights (levels_of s) (PlainEntry f) ∷ floor_of (levels_of s))) ≡ true
      → Moves (gate_pruned s (gate_on t.job.clauses (levels_of s) (with_heights (levels_of s) (PlainEntry f) ∷ floor_of (levels_of s)))
      (or_none (taken_alone t.job.clauses (with_heights (levels_of s) (PlainEntry f) ∷ floor_of (levels_of s)))) t)
  plain_moves h m l =
      let g : Continuation ℕ = record { items = by_heights levels f.items; named = f.named; next = f.next } in
      let path = around_path levels IsOpen (placed_here t i k running s o f entry).around in
      go g (by_heights levels (without_marks f.items)) (without_marks (by_heights levels f.items)) (marks_heights levels f.items)
      (items_move g refl refl (without_marks f.items) refl h.asked (marks_dropped (way_of levels) f.items path h.scoped)
      (marks_without (dormant_on levels) f.items m)) l
    where
      go : (g : Continuation ℕ) (is js : List (Item ℕ)) → is ≡ js
          → (may_prune levels (item_gate t.job.clauses levels is g (floor_of levels)) ≡ true
          → Moves (gate_pruned s (item_gate t.job.clauses levels is g (floor_of levels))
          (or_none (item_alone t.job.clauses is g (floor_of levels))) t))
          → may_prune levels (item_gate t.job.clauses levels js g (floor_of levels)) ≡ true
          → Moves (gate_pruned s (item_gate t.job.clauses levels js g (floor_of levels))
          (or_none (item_alone t.job.clauses js g (floor_of levels))) t)
      go g is js e = subst (λ x. may_prune levels (item_gate t.job.clauses levels x g (floor_of levels)) ≡ true
          → Moves (gate_pruned s (item_gate t.job.clauses levels x g (floor_of levels))
          (or_none (item_alone t.job.clauses x g (floor_of levels))) t)) e
