-- Each event keeps the answers and their order, but one that gives an answer, which adds it.
use Rattle.std.proofs.Common.{◌≡◌, inl, inr, ℕ, suc, ◌+◌, ◌-◌, ◌<◌, true, List, [], ◌∷◌, map, length, Some, refl, ap, ◌∙◌, arith}
use Rattle.std.specs.Prelude.{drop, take}
use Rattle.au_term.specs.Term.{Term}
use Rattle.run_model.specs.Programs.Jobs.{Query}
use Rattle.au_model.specs.Terms.Copies.{copied}
use Rattle.run_model.specs.Machine.Entries.{Entry, CatchEntry, EndEntry}
use Rattle.tree_model.specs.Credits.{Credit, greatest, credit_of}
use Rattle.tree_model.specs.Nodes.{ChoiceNode, Hold, Ready, Numbered, Status, Pending, Inner, Closed, single, entry_alternatives}
use Rattle.tree_model.specs.Levels.{Level, plug, Spot, levels_of}
use Rattle.tree_model.specs.Floors.{floor_of, node_of, with_nodes, query_node}
use Rattle.tree_model.specs.Pruning.{pruned}
use Rattle.tree_model.specs.Shapes.{further, guard_kind, guard_hold, placed_status}
use Rattle.tree_model.specs.FrontGates.{Halts, QueryEnds}
use Rattle.tree_model.specs.TreeStates.{TreeState, opened_node}
use Rattle.tree_model.specs.Effects.{spending, closed_with, left_at, ball_falls, cut_at, query_opens, front_taken}
use Rattle.tree_model.specs.PendingLists.{way_of}
use Rattle.tree_model.specs.Ways.{under_query}
use Rattle.tree_model.specs.SoundTrees.{IsOpen}
use Rattle.tree_model.specs.GivenAnswers.{answers_in, answers_among, AreInOrder}
use Rattle.interleaving.proofs.ContextLemmas.{IsAround}
use Rattle.interleaving.proofs.ListEndLemmas.{levels_down}
use Rattle.interleaving.proofs.ClockLemmas.{AreClear}
use Rattle.interleaving.proofs.CatchingLemmas.{Catching, Uncaught, CaughtBy, catching_entries, IsTaken}
use Rattle.interleaving.proofs.BallPlaceLemmas.{query_at, scope_down}
use Rattle.interleaving.proofs.EntryLemmas.{length-floor}
use Rattle.interleaving.proofs.AnswerOrderLemmas.{plug_answers, none_ordered, RightsEmpty, rights_empty, SameLeft, same_left, put_order}
use Rattle.interleaving.proofs.AnswerOrderLemmas.{round_same}
use Rattle.interleaving.proofs.AnswerClosingLemmas.{IsOrdered, closes_order, ball_closes_order, spent_left, pruned_left}

-- entries that are give no answers
pub alternatives_none : (hold : Hold) (es : List Entry) → answers_among (entry_alternatives hold es) ≡ 0
alternatives_none hold [] = refl
alternatives_none hold (e ∷ es) = let h = alternatives_none hold es in omega (arith, h)

pub placed_none : (next : ℕ) (sizes : List ℕ) (es : List Entry) → answers_in (placed_status next sizes es) ≡ 0
placed_none next [] [] = refl
placed_none next [] (e ∷ es) = refl
placed_none next (size ∷ sizes) es =
    let rest = length es - further size in
    let one = placed_none (suc next) sizes (take rest es) in
    let two = alternatives_none (guard_hold (guard_kind (drop rest es))) (drop rest es) in
    omega (arith, one, two)

module _ (t : TreeState) (s : Spot) (around : IsAround (levels_of s) IsOpen)
    (order : AreInOrder (plug (levels_of s) (Pending s.hold s.entry)))
    (few : answers_in (plug (levels_of s) (Pending s.hold s.entry)) < greatest) where
  abbrev old : Status
  old = Pending s.hold s.entry

  abbrev total : ℕ
  total = answers_in (plug (levels_of s) (Pending s.hold s.entry))

  rights : RightsEmpty (levels_of s)
  rights = rights_empty (levels_of s) old refl order

  -- what gives no answer, in place of the entry
  pub put_preserved : (new : List Level) (status : Status) → SameLeft (levels_of s) new → answers_in status ≡ 0
      → IsOrdered (plug new status) (answers_in (plug (levels_of s) (Pending s.hold s.entry)))
  put_preserved new status same z =
      let a = plug_answers (levels_of s) old in
      let b = plug_answers new status in
      let r = round_same (levels_of s) new same rights in
      (put_order (levels_of s) new old status same rights (none_ordered status z) (inl (omega (arith, z))) order, omega (arith, a, b, r, z))

  pub closed_preserved : (c : Credit) → c.answers ≡ 0
      → IsOrdered (closed_with s c t).root (answers_in (plug (levels_of s) (Pending s.hold s.entry)))
  closed_preserved c z =
      let p = put_preserved (levels_of s) (Closed c) (same_left (levels_of s) rights) z in
      let same = p.1 in
      let r = closes_order t.next (levels_of s) c around p.0 (omega (arith, same, few)) in
      (r.0, r.1 ∙ same)

  -- an answer
  pub answer_preserved : (c : Credit) → c.answers ≡ 1 → AreClear (levels_of s)
      → IsOrdered (closed_with s c t).root (answers_in (plug (levels_of s) (Pending s.hold s.entry)) + 1)
  answer_preserved c one clear =
      let a = plug_answers (levels_of s) old in
      let b = plug_answers (levels_of s) (Closed c) in
      let more : answers_in (plug (levels_of s) (Closed c)) ≡ total + 1 = omega (arith, a, b, one) in
      let r = closes_order t.next (levels_of s) c around
      (put_order (levels_of s) (levels_of s) old (Closed c) (same_left (levels_of s) rights) rights tt (inr clear) order)
      (omega (arith, more, few)) in
      (r.0, r.1 ∙ more)

  pub left_preserved : (es : List Entry) → IsOrdered (left_at s es t).root (answers_in (plug (levels_of s) (Pending s.hold s.entry)))
  left_preserved [] = closed_preserved (credit_of 1) refl
  left_preserved (e ∷ es) = put_preserved (spending 1 (levels_of s))
      (Inner (Numbered t.next ChoiceNode (entry_alternatives Ready (map (with_nodes (node_of (levels_of s))) (e ∷ es)))))
      (spent_left 1 (levels_of s) rights) (alternatives_none Ready (map (with_nodes (node_of (levels_of s))) (e ∷ es)))

  pub cut_preserved : (n : ℕ) (e : Entry) (es : List Entry)
      → IsOrdered (cut_at s n (e ∷ es) t).root (answers_in (plug (levels_of s) (Pending s.hold s.entry)))
  cut_preserved n e es = put_preserved (pruned n (spending 1 (levels_of s))) (Inner (single t.next (with_nodes (node_of (levels_of s)) e)))
      (pruned_left n 1 (levels_of s) rights) refl

  pub fallen_preserved : (ball : Term) (x : Catching) → IsTaken ball (levels_of s) x → under_query (way_of (levels_of s)) ≡ true
      → IsOrdered (ball_falls s (catching_entries ball x) t).root (answers_in (plug (levels_of s) (Pending s.hold s.entry)))
  fallen_preserved ball Uncaught k u =
      let q = query_at (levels_of s) around u in
      ball_closes_order t.next (query_node (levels_of s)) (levels_of s) old (credit_of 1) (EndEntry (Some (copied ball 0))) q.level q.above
      (EndEntry q.end.ball) q.down (record { spent = q.end.spent; left = q.end.left; right = q.end.right }) refl order refl
      (omega (arith, few))
  fallen_preserved ball (CaughtBy w up r f o) k u =
      let scope : node_of (levels_of s) (suc (length (floor_of up))) ≡ w.number = ap (λ n. node_of (levels_of s) (suc n))
      (length-floor up) ∙ scope_down (levels_of s) w.number w up k.down k.on in
      ball_closes_order t.next (node_of (levels_of s) (suc (length (floor_of up)))) (levels_of s) old (credit_of 1) _ w up
      (CatchEntry k.catcher r f) (ap (levels_down (levels_of s)) scope ∙ k.down) k.sleeper refl order refl (omega (arith, few))

  query_preserved : (qs : List Query) → IsOrdered (query_opens s qs t).root (answers_in (plug (levels_of s) (Pending s.hold s.entry)))
  query_preserved [] = closed_preserved (credit_of 1) refl
  query_preserved (q ∷ qs) = put_preserved (spending 1 (levels_of s)) (Inner (opened_node t.next q))
      (spent_left 1 (levels_of s) rights) refl

  pub halt_preserved : (k : ℕ) → IsOrdered (front_taken s (Halts k) t).root (answers_in (plug (levels_of s) (Pending s.hold s.entry)))
  halt_preserved k = put_preserved (spending 1 (levels_of s)) (Pending s.hold s.entry) (spent_left 1 (levels_of s) rights) refl

  pub queries_preserved : IsOrdered (front_taken s QueryEnds t).root (answers_in (plug (levels_of s) (Pending s.hold s.entry)))
  queries_preserved = query_preserved t.queries
