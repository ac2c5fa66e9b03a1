-- Where an alternative closes or a ball lands, no node of a query goes.
use Rattle.std.proofs.Common.{◌≡◌, ◌⊎◌, inl, inr, ℕ, ◌+◌, ◌==◌, Bool, true, false, cond, suc, List, [], ◌∷◌, length, Option, Some, None, refl, sym, ap}
use Rattle.std.proofs.Common.{◌∙◌, subst, arith}
use Rattle.au_term.specs.Term.{Term}
use Rattle.run_model.specs.Machine.Entries.{Entry, PlainEntry, CatchEntry, FindallEntry, EndEntry}
use Rattle.tree_model.specs.Credits.{Credit, no_credit, added, credit_of, without_records}
use Rattle.tree_model.specs.Nodes.{Kind, ChoiceNode, CatchNode, FindallNode, QueryNode, Ready, TakenBy, Waiting, Dormant}
use Rattle.tree_model.specs.Nodes.{Alternatives, none, alternative, Status, Pending, Inner, Closed, single}
use Rattle.tree_model.specs.Levels.{Level, plug}
use Rattle.tree_model.specs.Closing.{with_right, with_results, findall_goes_on, dormant_right, guarded, all_closed, folds, wakes}
use Rattle.tree_model.specs.Closing.{goal_side_closes, closes}
use Rattle.tree_model.specs.Pruning.{left_after, ball_closes}
use Rattle.tree_model.specs.PendingLists.{way_of}
use Rattle.tree_model.specs.Ways.{is_query, under_query}
use Rattle.tree_model.specs.SoundTrees.{IsOpen, profiles, is_shape}
use Rattle.interleaving.proofs.ContextLemmas.{put_profiles, IsAround}
use Rattle.au_term.proofs.LogicLemmas.{false_true}
use Rattle.query_laws.specs.QueriesCounted.{one_for, queries_among, queries_below, queries_above}
use Rattle.query_laws.proofs.QueryCountLemmas.{left_queries, NoneBeside, placed_queries, no_query_kind}

closed_queries : (levels : List Level) (c : Credit) → NoneBeside levels → queries_below (plug levels (Closed c)) ≡ queries_above levels
closed_queries levels c n = let h : queries_below (plug levels (Closed c)) ≡ queries_above levels + 0 = placed_queries levels (Closed c) n in omega (arith, h)

-- what sleeps wakes
woken_queries : (next : ℕ) (v : Level) (up : List Level) (c : Credit) (e : Entry) → left_queries v.left ≡ 0 → NoneBeside up
    → queries_below (wakes next v up c e).root ≡ queries_above (v ∷ up)
woken_queries next v up c e l n = closed_queries (with_right (Inner (single next e)) v ∷ up) c (l, refl, n)

-- beside the goals of a query its end sleeps
end_sleeps : (kind : Kind) (left : List (ℕ × Status)) (right : Alternatives) → is_query kind ≡ true → (length left == 0) ≡ true
    → is_shape kind (put_profiles left (IsOpen ∷ profiles right)) ≡ true
    → (b : Option Term) × (elim left as (λ l. Option Entry) [ [] ↦ dormant_right right | a ∷ rest ↦ None ] ≡ Some (EndEntry b))
end_sleeps ChoiceNode left right k i h = false_true k
end_sleeps CatchNode left right k i h = false_true k
end_sleeps FindallNode left right k i h = false_true k
end_sleeps QueryNode (a ∷ left) right k i h = absurd (further (length left) i)
  where
    further : (n : ℕ) → (suc n == 0) ≡ true → ⊥
    further n z = grind arith
end_sleeps QueryNode [] none k i h = false_true h
end_sleeps QueryNode [] (alternative sp (Inner node) none) k i h = false_true h
end_sleeps QueryNode [] (alternative sp (Closed c) none) k i h = false_true h
end_sleeps QueryNode [] (alternative sp (Pending Ready e) none) k i h = false_true h
end_sleeps QueryNode [] (alternative sp (Pending (TakenBy w) e) none) k i h = false_true h
end_sleeps QueryNode [] (alternative sp (Pending (Waiting g) e) none) k i h = false_true h
end_sleeps QueryNode [] (alternative sp (Pending Dormant (EndEntry b)) none) k i h = (b, refl)
end_sleeps QueryNode [] (alternative sp (Pending Dormant (PlainEntry f)) none) k i h = false_true h
end_sleeps QueryNode [] (alternative sp (Pending Dormant (CatchEntry c r f)) none) k i h = false_true h
end_sleeps QueryNode [] (alternative sp (Pending Dormant (FindallEntry results l f)) none) k i h = false_true h
end_sleeps QueryNode [] (alternative sp status (alternative sq other others)) k i h = false_true h

-- no alternative above a way on which the goals of a query are closes with an end
abbrev Closes : ℕ → List Level → Type 0
Closes next levels = (c : Credit) → queries_below (closes next levels c).root ≡ queries_above levels

pub closing_queries : (next : ℕ) (levels : List Level) → IsAround levels IsOpen → under_query (way_of levels) ≡ true → NoneBeside levels
    → Closes next levels
closing_queries next [] a u n c = refl
closing_queries next (v ∷ up) a u n c = pick (is_query v.kind) refl u
    (λ w. closing_queries next up a.1 w n.2)
  where
    -- a node folds
    fold : (w : Level) → w.kind ≡ v.kind → left_queries w.left ≡ 0 → queries_among w.right ≡ 0 → one_for v.kind ≡ 0 → Closes next up
        → (o : Option Credit) → queries_below (folds next w up c o (closes next up)).root ≡ queries_above (v ∷ up)
    fold w k l r z f o = go up n.2 f o
      where
        same : one_for w.kind ≡ one_for v.kind
        same = ap one_for k

        go : (above : List Level) → NoneBeside above → Closes next above → (o : Option Credit)
            → queries_below (folds next w above c o (closes next above)).root ≡ one_for v.kind + queries_above above
        go above m g None = closed_queries (w ∷ above) c (l, r, m) ∙ ap (λ k. k + queries_above above) same
        go [] m g (Some total) = closed_queries (w ∷ []) c (l, r, m) ∙ ap (λ k. k + 0) same
        go (x ∷ above) m g (Some total) = g (added (credit_of x.spent) total) ∙ (let q : queries_above (x ∷ above)
            ≡ one_for v.kind + queries_above (x ∷ above) = omega (arith, z) in q)

    sleeper : one_for v.kind ≡ 0 → Closes next up → (o : Option Entry)
        → queries_below (goal_side_closes next v up c o (closes next up)).root ≡ queries_above (v ∷ up)
    sleeper z f None = fold v refl n.0 n.1 z f (all_closed v c)
    sleeper z f (Some (PlainEntry x)) = fold v refl n.0 n.1 z f (all_closed v c)
    sleeper z f (Some (CatchEntry k r x)) =
        let gone = with_right (Closed no_credit) v in
        fold gone refl n.0 refl z f (all_closed gone c)
    sleeper z f (Some (FindallEntry results l x)) = woken_queries next v up (without_records c)
        (findall_goes_on v.number (with_results c.records (FindallEntry results l x))) n.0 n.2
    sleeper z f (Some (EndEntry b)) = woken_queries next v up c (EndEntry b) n.0 n.2

    pick : (q : Bool) → is_query v.kind ≡ q → cond q (length v.left == 0) (under_query (way_of up)) ≡ true
        → (under_query (way_of up) ≡ true → Closes next up)
        → queries_below (goal_side_closes next v up c (guarded v) (closes next up)).root ≡ queries_above (v ∷ up)
    pick false e w f = sleeper (no_query_kind v.kind e) (f w) (guarded v)
    pick true e w f =
        let s = end_sleeps v.kind v.left v.right e w a.0.shape in
        subst (λ o. queries_below (goal_side_closes next v up c o (closes next up)).root ≡ queries_above (v ∷ up)) (sym s.1)
        (woken_queries next v up c (EndEntry s.0) n.0 n.2)

-- below the node where a ball lands is no query's
abbrev pub FallsWithin : ℕ → List Level → Type 0
FallsWithin scope [] = Unit {0}
FallsWithin scope (v ∷ up) = ((v.number == scope) ≡ true) ⊎ ((is_query v.kind ≡ false) × FallsWithin scope up)

pub ball_queries : (next scope : ℕ) (levels : List Level) (c : Credit) (e : Entry) → NoneBeside levels → FallsWithin scope levels
    → queries_below (ball_closes next scope levels c e).root ≡ queries_above levels
ball_queries next scope [] c e n f = refl
ball_queries next scope (v ∷ up) c e n f = go (v.number == scope) f (λ d g. ball_queries next scope up d e n.2 g)
  where
    go : (b : Bool) → (b ≡ true) ⊎ ((is_query v.kind ≡ false) × FallsWithin scope up)
        → ((d : Credit) → FallsWithin scope up → queries_below (ball_closes next scope up d e).root ≡ queries_above up)
        → queries_below (cond b (wakes next v up (left_after v c) e) (ball_closes next scope up (left_after v c) e)).root
        ≡ queries_above (v ∷ up)
    go true k g = woken_queries next v up (left_after v c) e n.0 n.2
    go false (inl k) g = false_true k
    go false (inr k) g =
        let z = no_query_kind v.kind k.0 in
        let l = g (left_after v c) k.1 in
        omega (arith, z, l)
