-- A cut or a ball keeps the marks, records and queries of a tree.
use Rattle.std.proofs.Common.{◌≡◌, inl, ℕ, suc, ◌+◌, ◌==◌, Bool, true, false, cond, List, [], ◌∷◌, map, length, Some, None, refl, sym, ap}
use Rattle.std.proofs.Common.{◌∙◌, subst, arith}
use Rattle.std.specs.Prelude.{nat_lt}
use Rattle.au_term.specs.Term.{Term}
use Rattle.au_model.specs.Terms.Each.{Each}
use Rattle.run_model.specs.Programs.Clauses.{Clause}
use Rattle.run_model.specs.Goals.GoalOutcomes.{outcome_of}
use Rattle.run_model.specs.Machine.Balls.{unwound}
use Rattle.run_model.specs.Goals.Outcomes.{Solutions, Ball, HaltNumber, GoesOnWith, EitherOf, TestOf, CutToScope, CatchOf, FindallOf}
use Rattle.run_model.specs.Goals.Outcomes.{Outcome}
use Rattle.run_model.specs.Goals.Outcomes.{Replies, Controls, AskWorld}
use Rattle.run_model.specs.Machine.Items.{Item, GoalItem, CatchMark, CollectMark, RemovalItem, Continuation, first_mark, with_items}
use Rattle.run_model.specs.Machine.Items.{without_marks}
use Rattle.run_model.specs.Machine.Entries.{Entry, PlainEntry, CatchEntry, FindallEntry, EndEntry}
use Rattle.tree_model.specs.Credits.{Credit, no_credit, credit_of}
use Rattle.tree_model.specs.Nodes.{CutGate, BallGate, ChoiceNode, Ready, Node, Numbered, Alternatives, alternative, Status, Inner, Closed}
use Rattle.tree_model.specs.Nodes.{single, entry_alternatives}
use Rattle.tree_model.specs.Levels.{Level, plug, Spot, levels_of}
use Rattle.tree_model.specs.Floors.{height_of, floor_of, node_of, with_heights, with_nodes}
use Rattle.tree_model.specs.Gates.{ball_scope, is_caught_above, ball_gate, control_gate, goal_gate, item_gate, gate_on}
use Rattle.tree_model.specs.Orders.{is_closed, levels_below, is_cleared}
use Rattle.tree_model.specs.PrivateRuns.{goal_alone, item_alone, taken_alone}
use Rattle.tree_model.specs.TreeStates.{TreeState}
use Rattle.tree_model.specs.Legality.{may_prune}
use Rattle.tree_model.specs.Effects.{spending, closed_with, left_at, ball_falls, cut_at, or_none, gate_pruned}
use Rattle.tree_model.specs.PendingLists.{way_of}
use Rattle.tree_model.specs.Ways.{is_on, in_reach, way_from, AreScoped, under_query, IsAsked, IsOnWay}
use Rattle.tree_model.specs.CaughtTrees.{catch_right, with_catch, MarksCaught, EntryCaught, IsUnspentNode, IsCaughtTree}
use Rattle.tree_model.specs.SoundTrees.{IsOpen}
use Rattle.interleaving.proofs.WayLemmas.{reach-on, off_way}
use Rattle.interleaving.proofs.RoundtripLemmas.{by_nodes, by_heights, back_again, node_height}
use Rattle.interleaving.proofs.EntryLemmas.{length-floor}
use Rattle.interleaving.proofs.GrowingLemmas.{around_path, spending_around}
use Rattle.interleaving.proofs.PlacedEntryLemmas.{IsAt, marks_dropped, marks_heights, rest_asked}
use Rattle.interleaving.proofs.ListEndLemmas.{levels_down}
use Rattle.interleaving.proofs.ListScopeLemmas.{dormant_on, way_down}
use Rattle.interleaving.proofs.ListsSoundLemmas.{under_of}
use Rattle.interleaving.proofs.FoldLemmas.{CaughtAt}
use Rattle.interleaving.proofs.ClockLemmas.{AreClear}
use Rattle.interleaving.proofs.CaughtContextLemmas.{caught_level, Rests, first_rests, rests_level, unspent_level, IsCaughtRoot}
use Rattle.interleaving.proofs.CaughtClosingLemmas.{RecordsUnder, closed_rests, root_put, closes_caught, marks_other, off_numbers}
use Rattle.interleaving.proofs.BallLevelLemmas.{clear_below}
use Rattle.interleaving.proofs.CatchingLemmas.{Catching, Uncaught, CaughtBy, catching, catching_entries, IsTaken, ball_scope_falls}
use Rattle.interleaving.proofs.CatchingLemmas.{catching_taken, first_height}
use Rattle.interleaving.proofs.CatchingLemmas.{first_dormant}
use Rattle.interleaving.proofs.BallPlaceLemmas.{scope_down, query_at}
use Rattle.interleaving.proofs.CaughtBallLemmas.{recovery_caught, lost_caught}
use Rattle.interleaving.proofs.CaughtCutLemmas.{marks_agree, cut_root}
use Rattle.interleaving.proofs.CaughtEventLemmas.{as_tree, clear_spent, marks_without, NewCaught, OverCaught, each_named}
use Rattle.interleaving.proofs.CaughtEventLemmas.{alternatives_caught, alternatives_no_query, alternatives_no_node, alternatives_last}
use Rattle.interleaving.proofs.CaughtEventLemmas.{alternatives_unspent}
use Rattle.au_term.proofs.LogicLemmas.{false_true}

-- round an open place
module _ (t : TreeState) (s : Spot) (h : IsAt t s) (old : Status)
    (first : (sp : ℕ) (others : Alternatives) → catch_right (alternative sp old others) ≡ false) (closed_not : is_closed old ≡ false)
    (root : IsCaughtRoot (plug (levels_of s) old)) where
  abbrev sleeping : ℕ → Bool
  sleeping = dormant_on (levels_of s)

  pub put_node : (k : ℕ) (node : Node) → (CaughtAt (levels_of s) old → CaughtAt (levels_of s) (Inner node)) → Rests old (Inner node)
      → IsUnspentNode node → IsCaughtRoot (plug (spending k (levels_of s)) (Inner node))
  put_node k node f r u =
      let v = s.level in
      let up = s.above in
      record {
        caught = caught_level up v old (Inner node) (v.spent + k) v.right (first v.spent v.right) (λ c. (f c.0, c.1)) root.caught;
        last = (rests_level up v old (Inner node) (v.spent + k) v.right
            (first_rests v.spent (v.spent + k) old (Inner node) v.right r)).last root.last;
        unspent = unspent_level up v old (Inner node) (v.spent + k) v.right (λ c. (u, c.1)) root.unspent;
      }

  pub put_entries : (k : ℕ) (ds : List Entry) → Each (NewCaught (dormant_on (levels_of s)) t.next) ds
      → IsCaughtRoot (plug (spending k (levels_of s)) (Inner (Numbered t.next ChoiceNode (entry_alternatives Ready ds))))
  put_entries k ds c =
      put_node k (Numbered t.next ChoiceNode (entry_alternatives Ready ds))
      (λ z. alternatives_caught (dormant_on (levels_of s)) (under_of (levels_of s)) t.next 0 ds c)
      (record {
        no_query = λ z. (refl, alternatives_no_query (dormant_on (levels_of s)) t.next ds c);
        no_node = λ z.
            (refl, alternatives_no_node ds);
        closed = λ z. false_true (sym closed_not ∙ z);
        last = λ z. alternatives_last (dormant_on (levels_of s))
            t.next ds c;
      }) (alternatives_unspent ds)

  pub closed_preserved : (c : Credit) → RecordsUnder (levels_of s) c → IsCaughtTree (closed_with s c t)
  closed_preserved c r =
      as_tree (closed_with s c t) (closes_caught t.next (levels_of s) c h.placed.around h.free
      (root_put (levels_of s) old (Closed no_credit) (λ sp others. first sp others) (λ z. inl refl) (closed_rests old no_credit)
      (λ sp z. tt) root) r)

  pub left_preserved : (es : List Entry) → Each (OverCaught (dormant_on (levels_of s)) t.next (node_of (levels_of s))) es
      → IsCaughtTree (left_at s es t)
  left_preserved [] c = closed_preserved (credit_of 1) (inl refl)
  left_preserved (e ∷ es) c = as_tree (left_at s (e ∷ es) t)
      (put_entries 1 (map (with_nodes (node_of (levels_of s))) (e ∷ es))
      (each_named (dormant_on (levels_of s)) t.next (node_of (levels_of s)) (e ∷ es) c))

  off_next : is_on (way_of (levels_of s)) t.next ≡ false
  off_next = off_way t.next (levels_of s) (h.free.fresh t.next (omega arith))

  -- the marks of items that are left
  pub marks_left : (items : List (Item ℕ)) → AreScoped (way_of (levels_of s)) items → MarksCaught (dormant_on (levels_of s)) items
      → MarksCaught (with_catch t.next false (dormant_on (levels_of s)))
      (by_nodes (node_of (levels_of s)) (by_heights (levels_of s) items))
  marks_left items i m =
      subst (MarksCaught (with_catch t.next false (dormant_on (levels_of s))))
      (sym (back_again (levels_of s) (way_of (levels_of s)) items (λ r k. k) i))
      (marks_other (dormant_on (levels_of s)) t.next false (way_of (levels_of s)) items
      (off_numbers (way_of (levels_of s)) t.next off_next) i m)

  -- a ball
  abbrev Thrown : List Entry → Type 0
  Thrown es = AreClear (levels_below (Some (ball_scope (levels_of s) es)) (levels_of s)) → IsCaughtTree (ball_falls s es t)

  fallen_preserved : (ball : Term) (x : Catching) → under_query (way_of (levels_of s)) ≡ true → IsTaken ball (levels_of s) x
      → Thrown (catching_entries ball x)
  fallen_preserved ball Uncaught u k c = as_tree _
      (lost_caught t.next (levels_of s) old _ h.placed.around h.free first c (query_at (levels_of s) h.placed.around u) root)
  fallen_preserved ball (CaughtBy w up r f o) u k c =
      let scope : node_of (levels_of s) (suc (length (floor_of up))) ≡ w.number = ap (λ n. node_of (levels_of s) (suc n))
      (length-floor up) ∙ scope_down (levels_of s) w.number w up k.down k.on in
      as_tree _ (recovery_caught t.next (levels_of s) old w up r f o ball _ refl h.placed.around h.free first
      (subst (λ n. AreClear (levels_below (Some n) (levels_of s))) scope c) k root)

  pub thrown_preserved : (ball : Term) (items : List (Item ℕ)) → IsAsked (way_of (levels_of s)) items
      → MarksCaught (dormant_on (levels_of s)) items
      → Thrown (unwound ball (first_mark (by_heights (levels_of s) items)) (floor_of (levels_of s)))
  thrown_preserved ball items i m =
      let levels = levels_of s in
      let sleeps = first_dormant levels items m in
      let mark = first_mark items in
      let same = ap (λ k. unwound ball k (floor_of levels)) (first_height levels items)
      ∙ ball_scope_falls ball levels old mark h.placed.around root.caught sleeps in
      subst Thrown (sym same) (fallen_preserved ball (catching ball levels mark) i.asked
      (catching_taken ball levels old mark h.placed.around root.caught sleeps))

  -- prunes
  ball_pruned : (es : List Entry) → IsCaughtTree t → Thrown es → may_prune (levels_of s) (ball_gate (levels_of s) es) ≡ true
      → IsCaughtTree (gate_pruned s (ball_gate (levels_of s) es) es t)
  ball_pruned es q k l = go (is_caught_above (levels_of s) es) l
    where
      go : (b : Bool) → may_prune (levels_of s) (cond b None (Some (BallGate (ball_scope (levels_of s) es)))) ≡ true
          → IsCaughtTree (gate_pruned s (cond b None (Some (BallGate (ball_scope (levels_of s) es)))) es t)
      go true z = q
      go false z = k (clear_below (ball_scope (levels_of s) es) (levels_of s) z)

  cut_preserved : (n : ℕ) (g : Continuation ℕ) (items : List (Item ℕ)) (es : List Entry) → in_reach (way_of (levels_of s)) n ≡ true
      → AreScoped (way_from (way_of (levels_of s)) n) items → AreScoped (way_of (levels_of s)) items
      → MarksCaught (dormant_on (levels_of s)) items → is_cleared (Some n) (levels_of s) ≡ true
      → IsCaughtTree (cut_at s n (PlainEntry (with_items (by_heights (levels_of s) items) g) ∷ es) t)
  cut_preserved n g items es r i j m l =
      let v = s.level in
      let up = s.above in
      let levels = levels_of s in
      let e = with_nodes (node_of levels) (PlainEntry (with_items (by_heights levels items) g)) in
      let base = put_entries 1 (e ∷ []) ((marks_left items j m, tt), tt) in
      let new = Inner (single t.next e) in
      let same : by_nodes (node_of levels) (by_heights levels items) ≡ items = back_again levels (way_of levels) items (λ r k. k) j in
      let spent : List Level = record v { spent = v.spent + 1 } ∷ up in
      let part : AreScoped (way_of (levels_down spent n)) items = subst (λ w. AreScoped w items) (sym (way_down spent n)) i in
      as_tree _ (cut_root n (record v { spent = v.spent + 1 }) up new new (reach-on (way_of levels) n r)
      (spending_around 1 levels h.placed.around) (clear_spent n (v.spent + 1) v up (clear_below n levels l))
      (λ sleeps agree z. (
        subst (MarksCaught (with_catch t.next false sleeps)) (sym same)
            (marks_agree (with_catch t.next false (dormant_on levels)) (with_catch t.next false sleeps) (way_of (levels_down spent n))
            items (λ q k. ap (cond (t.next == q) false) (agree q k)) part
            (subst (MarksCaught (with_catch t.next false (dormant_on levels))) same z.0)),
        tt,
      ))
      (λ sp others. refl) (record { no_query = λ z. z; no_node = λ z. z; closed = λ z. z; last = λ z. z }) (λ sp z. z) base)

  cut_pruned : (n : ℕ) (g : Continuation ℕ) (items : List (Item ℕ)) (es : List Entry) → IsCaughtTree t
      → in_reach (way_of (levels_of s)) n ≡ true → AreScoped (way_from (way_of (levels_of s)) n) items
      → AreScoped (way_of (levels_of s)) items → MarksCaught (dormant_on (levels_of s)) items
      → may_prune (levels_of s) (control_gate (levels_of s) CutToScope (height_of (levels_of s) n)) ≡ true
      → IsCaughtTree (gate_pruned s (control_gate (levels_of s) CutToScope (height_of (levels_of s) n))
      (PlainEntry (with_items (by_heights (levels_of s) items) g) ∷ es) t)
  cut_pruned n g items es q r i j m l = go (nat_lt (height_of (levels_of s) n) (length (levels_of s))) l
    where
      back : node_of (levels_of s) (height_of (levels_of s) n) ≡ n
      back = node_height (levels_of s) n (reach-on (way_of (levels_of s)) n r)

      go : (b : Bool) → may_prune (levels_of s) (cond b (Some (CutGate (node_of (levels_of s) (height_of (levels_of s) n)))) None)
          ≡ true → IsCaughtTree (gate_pruned s (cond b (Some (CutGate (node_of (levels_of s) (height_of (levels_of s) n)))) None)
          (PlainEntry (with_items (by_heights (levels_of s) items) g) ∷ es) t)
      go false z = false_true z
      go true z = subst (λ k. IsCaughtTree (cut_at s k (PlainEntry (with_items (by_heights (levels_of s) items) g) ∷ es) t)) (sym back)
          (cut_preserved n g items es r i j m (subst (λ k. is_cleared (Some k) (levels_of s) ≡ true) back z))

  goal_pruned : (o : Outcome) (n : ℕ) (g : Continuation ℕ) (items : List (Item ℕ)) → IsCaughtTree t → in_reach (way_of (levels_of s)) n
      ≡ true → AreScoped (way_from (way_of (levels_of s)) n) items → IsAsked (way_of (levels_of s)) items
      → MarksCaught (dormant_on (levels_of s)) items
      → may_prune (levels_of s) (goal_gate (levels_of s) o (height_of (levels_of s) n) (with_items (by_heights (levels_of s) items) g)
      (floor_of (levels_of s))) ≡ true
      → IsCaughtTree (gate_pruned s (goal_gate (levels_of s) o (height_of (levels_of s) n)
      (with_items (by_heights (levels_of s) items) g) (floor_of (levels_of s)))
      (goal_alone o (height_of (levels_of s) n) (with_items (by_heights (levels_of s) items) g) (floor_of (levels_of s))) t)
  goal_pruned (AskWorld goal) n g items q r i j m l = false_true l
  goal_pruned (Replies (Solutions ss)) n g items q r i j m l = false_true l
  goal_pruned (Replies (HaltNumber k)) n g items q r i j m l = false_true l
  goal_pruned (Replies (Ball b)) n g items q r i j m l = ball_pruned _ q (thrown_preserved b items j m) l
  goal_pruned (Controls CutToScope) n g items q r i j m l = cut_pruned n g items _ q r i j.scoped m l
  goal_pruned (Controls (GoesOnWith gs)) n g items q r i j m l = false_true l
  goal_pruned (Controls (EitherOf gs others)) n g items q r i j m l = false_true l
  goal_pruned (Controls (TestOf gs thens others)) n g items q r i j m l = false_true l
  goal_pruned (Controls (CatchOf goal catcher recovery)) n g items q r i j m l = false_true l
  goal_pruned (Controls (FindallOf template goal list)) n g items q r i j m l = false_true l

  items_pruned : (clauses : List Clause) (g : Continuation ℕ) (items : List (Item ℕ)) → IsCaughtTree t
      → under_query (way_of (levels_of s)) ≡ true → AreScoped (way_of (levels_of s)) items → MarksCaught (dormant_on (levels_of s)) items
      → may_prune (levels_of s) (item_gate clauses (levels_of s) (by_heights (levels_of s) items) g (floor_of (levels_of s))) ≡ true
      → IsCaughtTree (gate_pruned s (item_gate clauses (levels_of s) (by_heights (levels_of s) items) g (floor_of (levels_of s)))
      (or_none (item_alone clauses (by_heights (levels_of s) items) g (floor_of (levels_of s)))) t)
  items_pruned clauses g [] q u i m l = false_true l
  items_pruned clauses g (CatchMark n ∷ items) q u i m l = false_true l
  items_pruned clauses g (CollectMark x n ∷ items) q u i m l = false_true l
  items_pruned clauses g (RemovalItem n ∷ items) q u i m l = false_true l
  items_pruned clauses g (GoalItem x n ∷ items) q u i m l = goal_pruned (outcome_of clauses x g.next) n g items q i.0 i.1
      (rest_asked (levels_of s) n items (around_path (levels_of s) IsOpen h.placed.around) u i.0 i.1) m l

  pub stack_pruned : (clauses : List Clause) (e : Entry) → IsCaughtTree t → IsOnWay (way_of (levels_of s)) e
      → EntryCaught (dormant_on (levels_of s)) e
      → may_prune (levels_of s) (gate_on clauses (levels_of s) (with_heights (levels_of s) e ∷ floor_of (levels_of s))) ≡ true
      → IsCaughtTree (gate_pruned s (gate_on clauses (levels_of s) (with_heights (levels_of s) e ∷ floor_of (levels_of s)))
      (or_none (taken_alone clauses (with_heights (levels_of s) e ∷ floor_of (levels_of s)))) t)
  stack_pruned clauses (EndEntry b) q i m l = false_true l
  stack_pruned clauses (CatchEntry c r f) q i m l = false_true l
  stack_pruned clauses (FindallEntry results list f) q i m l = false_true l
  stack_pruned clauses (PlainEntry f) q i m l =
      let g : Continuation ℕ = record { items = by_heights (levels_of s) f.items; named = f.named; next = f.next } in
      go g (by_heights (levels_of s) (without_marks f.items)) (without_marks (by_heights (levels_of s) f.items))
      (marks_heights (levels_of s) f.items)
      (items_pruned clauses g (without_marks f.items) q i.asked
      (marks_dropped (way_of (levels_of s)) f.items (around_path (levels_of s) IsOpen h.placed.around) i.scoped)
      (marks_without (dormant_on (levels_of s)) f.items m)) l
    where
      go : (g : Continuation ℕ) (is js : List (Item ℕ)) → is ≡ js
          → (may_prune (levels_of s) (item_gate clauses (levels_of s) is g (floor_of (levels_of s))) ≡ true
          → IsCaughtTree (gate_pruned s (item_gate clauses (levels_of s) is g (floor_of (levels_of s)))
          (or_none (item_alone clauses is g (floor_of (levels_of s)))) t))
          → may_prune (levels_of s) (item_gate clauses (levels_of s) js g (floor_of (levels_of s))) ≡ true
          → IsCaughtTree (gate_pruned s (item_gate clauses (levels_of s) js g (floor_of (levels_of s)))
          (or_none (item_alone clauses js g (floor_of (levels_of s)))) t)
      go g is js e = subst (λ x. may_prune (levels_of s) (item_gate clauses (levels_of s) x g (floor_of (levels_of s))) ≡ true
          → IsCaughtTree (gate_pruned s (item_gate clauses (levels_of s) x g (floor_of (levels_of s)))
          (or_none (item_alone clauses x g (floor_of (levels_of s)))) t)) e
