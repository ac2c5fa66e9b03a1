-- To the right of a query, and of a query's end, nothing is left; nor anything open to the left of a query's node.
use Rattle.std.proofs.Common.{◌≡◌, inl, inr, ℕ, suc, ◌+◌, ◌≤◌, true, false, List, [], ◌∷◌, ◌++◌, map, length, Option, Some, None, refl}
use Rattle.std.proofs.Common.{sym, ap, subst, arith}
use Rattle.std.specs.Prelude.{min}
use Rattle.run_model.specs.Programs.Clauses.{Clause}
use Rattle.run_model.specs.Machine.Entries.{Entry}
use Rattle.tree_model.specs.Credits.{Credit as TreeCredit, greatest, added, credit_of}
use Rattle.tree_model.specs.Nodes.{Alternatives, none, alternative, Status, Inner, Closed}
use Rattle.tree_model.specs.Levels.{Level, put_left, level_node, plug}
use Rattle.tree_model.specs.Orders.{is_closed}
use Rattle.tree_model.specs.Closing.{dormant_right, guarded, all_closed, folds, goal_side_closes, closes}
use Rattle.tree_model.specs.PendingLists.{way_of, balance_on, list_among, list_left, list_right, pending_list, front_of, back_of}
use Rattle.tree_model.specs.SoundTrees.{IsOpen}
use Rattle.tree_model.specs.CaughtTrees.{is_side, HasNoQuery, HaveNoQuery, HasNoQueryNode, AreNoQueryNodes, IsDoneBefore, IsLastQuery}
use Rattle.tree_model.specs.CaughtTrees.{AreLast}
use Rattle.tree_model.specs.Elements.{Record, Element, Credit, Plain, EndOf, Catch, Findall, End}
use Rattle.interleaving.specs.Machine.{gives, free_steps}
use Rattle.interleaving.specs.Scopes.{scoped}
use Rattle.interleaving.specs.Quiet.{IsQuiet, inferences}
use Rattle.interleaving.specs.Erased.{element_count, erased}
use Rattle.interleaving.specs.Follows.{lead}
use Rattle.interleaving.proofs.ContextLemmas.{IsAround}
use Rattle.interleaving.proofs.QuietCreditLemmas.{gives-fixed}
use Rattle.interleaving.proofs.ClockLemmas.{AreShut, AreClear, quiet-append, front_quiet}
use Rattle.interleaving.proofs.LeadLemmas.{lead-quiet, lead-grows, lead-bounded}
use Rattle.interleaving.proofs.FoldLemmas.{HaveNoSideRecords, LeftSides, node_totals, node_list, closed_round}
use Rattle.interleaving.proofs.ClosingListLemmas.{closed_list, no_side}
use Rattle.interleaving.proofs.CaughtContextLemmas.{last_put, last_at}

-- nothing is to the right
abbrev pub RightsNone : List Level → Type 0
RightsNone [] = Unit {0}
RightsNone (v ∷ up) = (v.right ≡ none) × RightsNone up

-- a query among alternatives
put_query : (left : List (ℕ × Status)) (others : Alternatives) → (HaveNoQuery others → ⊥) → HaveNoQuery (put_left left others) → ⊥
put_query [] others f h = f h
put_query (x ∷ left) others f h = put_query left (alternative x.0 x.1 others) (λ z. f z.1) h

pub rights_none : (levels : List Level) (status : Status) → (HasNoQuery status → ⊥) → IsLastQuery (plug levels status) → RightsNone levels
rights_none [] status n h = tt
rights_none (v ∷ up) status n h = (
  here v.right refl (last_put v.left (alternative v.spent status v.right) tt (last_at up v status h)),
  rights_none up
      (Inner (level_node v status)) (λ z. put_query v.left (alternative v.spent status v.right) (λ y. n y.0) z.1) h,
)
  where
    here : (right : Alternatives) → v.right ≡ right → AreLast (alternative v.spent status right) → right ≡ none
    here none e k = refl
    here (alternative sp st others) e k = absurd (n k.0)

-- ends of scopes
abbrev pub OnlyEnds : List Element → Type 0
OnlyEnds [] = Unit {0}
OnlyEnds (EndOf s ∷ xs) = OnlyEnds xs
OnlyEnds (Credit k rs ∷ xs) = ⊥
OnlyEnds (Plain p f ∷ xs) = ⊥
OnlyEnds (Catch s u c r p f ∷ xs) = ⊥
OnlyEnds (Findall s u results list p f ∷ xs) = ⊥
OnlyEnds (End p b ∷ xs) = ⊥

pub back_ends : (levels : List Level) → RightsNone levels → OnlyEnds (back_of levels)
back_ends [] h = tt
back_ends (v ∷ up) h = subst (λ r.
    OnlyEnds (EndOf (length v.left ∷ v.number ∷ []) ∷ (list_among (way_of up) v.number v.kind (suc (length v.left)) r ++ back_of up)))
    (sym h.0) (back_ends up h.1)

pub ends_given : (clauses : List Clause) (rs : List Record) (xs : List Element) → OnlyEnds xs → map (gives (scoped clauses) rs) xs ≡ xs
ends_given clauses rs [] h = refl
ends_given clauses rs (EndOf s ∷ xs) h = let head = gives-fixed clauses rs (EndOf s) tt in let tail = ends_given clauses rs xs h in cc
ends_given clauses rs (Credit k qs ∷ xs) h = absurd h
ends_given clauses rs (Plain p f ∷ xs) h = absurd h
ends_given clauses rs (Catch s u c r p f ∷ xs) h = absurd h
ends_given clauses rs (Findall s u results list p f ∷ xs) h = absurd h
ends_given clauses rs (End p b ∷ xs) h = absurd h

pub ends_take_no_step : (clauses : List Clause) (xs : List Element) → OnlyEnds xs → free_steps (scoped clauses) [] xs ≡ []
ends_take_no_step clauses [] h = refl
ends_take_no_step clauses (EndOf s ∷ xs) h = ends_take_no_step clauses xs h
ends_take_no_step clauses (Credit k qs ∷ xs) h = absurd h
ends_take_no_step clauses (Plain p f ∷ xs) h = absurd h
ends_take_no_step clauses (Catch s u c r p f ∷ xs) h = absurd h
ends_take_no_step clauses (Findall s u results list p f ∷ xs) h = absurd h
ends_take_no_step clauses (End p b ∷ xs) h = absurd h

pub ends_erased : (xs : List Element) → OnlyEnds xs → (erased xs ≡ []) × (element_count xs ≡ 0)
ends_erased [] h = (refl, refl)
ends_erased (EndOf s ∷ xs) h = ends_erased xs h
ends_erased (Credit k qs ∷ xs) h = absurd h
ends_erased (Plain p f ∷ xs) h = absurd h
ends_erased (Catch s u c r p f ∷ xs) h = absurd h
ends_erased (Findall s u results list p f ∷ xs) h = absurd h
ends_erased (End p b ∷ xs) h = absurd h

pub ends_lead : (xs : List Element) → OnlyEnds xs → lead xs ≡ 0
ends_lead [] h = refl
ends_lead (EndOf s ∷ xs) h = ends_lead xs h
ends_lead (Credit k qs ∷ xs) h = absurd h
ends_lead (Plain p f ∷ xs) h = absurd h
ends_lead (Catch s u c r p f ∷ xs) h = absurd h
ends_lead (Findall s u results list p f ∷ xs) h = absurd h
ends_lead (End p b ∷ xs) h = absurd h

-- a query's node among alternatives
put_node : (left : List (ℕ × Status)) (others : Alternatives) → (AreNoQueryNodes others → ⊥) → AreNoQueryNodes (put_left left others) → ⊥
put_node [] others f h = f h
put_node (x ∷ left) others f h = put_node left (alternative x.0 x.1 others) (λ z. f z.1) h

shut_before : (left : List (ℕ × Status)) (others : Alternatives) → (AreNoQueryNodes others → ⊥) → AreLast (put_left left others)
    → AreShut left
shut_before [] others f h = tt
shut_before (x ∷ left) none f h = absurd (f tt)
shut_before (x ∷ left) (alternative sp st more) f h =
    let k = last_put left (alternative x.0 x.1 (alternative sp st more)) tt h in
    (here k.1, shut_before left (alternative x.0 x.1 (alternative sp st more)) (λ z. f z.1) h)
  where
    here : IsDoneBefore x.1 (alternative sp st more) → is_closed x.1 ≡ true
    here (inl e) = e
    here (inr z) = absurd (f z)

pub query_clear : (levels : List Level) (status : Status) → (HasNoQueryNode status → ⊥) → IsLastQuery (plug levels status) → AreClear levels
query_clear [] status n h = tt
query_clear (v ∷ up) status n h = (
  shut_before v.left (alternative v.spent status v.right) (λ z. n z.0) (last_at up v status h),
  query_clear up
      (Inner (level_node v status)) (λ z. put_node v.left (alternative v.spent status v.right) (λ y. n y.0) z.1) h,
)

-- where nothing sleeps, what closes counts no more than before
none_guarded : (v : Level) → v.right ≡ none → guarded v ≡ None
none_guarded v e = go v.left v.right e
  where
    go : (left : List (ℕ × Status)) (right : Alternatives) → right ≡ none
        → elim left as (λ l. Option Entry) [ [] ↦ dormant_right right | a ∷ rest ↦ None ] ≡ None
    go [] none e = refl
    go [] (alternative sp st others) e = let no_way : ⊥ = cc in absurd no_way
    go (a ∷ rest) right e = refl

-- credits alone, that count as many up to the greatest, and no more
pub record CountsLess (xs ys : List Element) : Type 0 where
  pub quiet : IsQuiet ys
  pub less : lead ys ≤ lead xs
  pub enough : (m : ℕ) → m ≤ greatest → m ≤ lead xs → m ≤ lead ys

counts_then : (xs ys zs : List Element) → CountsLess xs ys → CountsLess ys zs → CountsLess xs zs
counts_then xs ys zs h k = record {
  quiet = k.quiet;
  less = (let a = h.less in let b = k.less in omega (arith, a, b));
  enough = λ m b l. k.enough m b (h.enough m b l);
}

counts_itself : (xs : List Element) → IsQuiet xs → CountsLess xs xs
counts_itself xs q = record { quiet = q; less = omega arith; enough = λ m b l. l }

pub ends_quiet : (xs : List Element) → OnlyEnds xs → IsQuiet xs
ends_quiet [] h = tt
ends_quiet (EndOf s ∷ xs) h = ends_quiet xs h
ends_quiet (Credit k qs ∷ xs) h = absurd h
ends_quiet (Plain p f ∷ xs) h = absurd h
ends_quiet (Catch s u c r p f ∷ xs) h = absurd h
ends_quiet (Findall s u results list p f ∷ xs) h = absurd h
ends_quiet (End p b ∷ xs) h = absurd h

-- a closed place with nothing to its right
closed_quiet : (levels : List Level) (c : TreeCredit) → AreClear levels → RightsNone levels
    → IsQuiet (pending_list (plug levels (Closed c)))
closed_quiet levels c clear n = subst IsQuiet (sym (closed_list levels c))
    (quiet-append (front_of levels) (balance_on (way_of levels) c ∷ back_of levels) (front_quiet levels clear)
    (ends_quiet (back_of levels) (back_ends levels n)))

fold_lead : (v u : Level) (up : List Level) (c total : TreeCredit) → LeftSides v.kind v.left → is_side v.kind (length v.left) ≡ false
    → all_closed v c ≡ Some total → AreClear (u ∷ up) → RightsNone (u ∷ up)
    → CountsLess (pending_list (plug (v ∷ u ∷ up) (Closed c))) (pending_list (plug (u ∷ up) (Closed (added (credit_of u.spent) total))))
fold_lead v u up c total sides off e clear n =
    let t = node_totals (u ∷ up) v c total sides off e in
    let inner = t.quiet in
    let d = added (credit_of u.spent) total in
    let xs = node_list (u ∷ up) v c in
    let zs = back_of (u ∷ up) in
    let sum = t.sum in
    let here : inferences xs ≡ u.spent + inferences (list_inner (u ∷ up) v c) = refl in
    let long : lead (xs ++ zs) ≡ inferences xs + lead zs = lead-quiet xs zs inner in
    let most : d.inferences ≡ min greatest (u.spent + total.inferences) = refl in
    let old = ap lead (closed_round v (u ∷ up) c) in
    let new = ap lead (closed_list (u ∷ up) d) in
    let less : lead (front_of (u ∷ up) ++ (balance_on (way_of (u ∷ up)) d ∷ zs)) ≤ lead (front_of (u ∷ up) ++ (xs ++ zs)) = lead-grows
    (front_of (u ∷ up)) (balance_on (way_of (u ∷ up)) d ∷ zs) (xs ++ zs) (omega (arith, sum, here, long, most)) in
    record {
      quiet = closed_quiet (u ∷ up) d clear n;
      less = omega (arith, old, new, less);
      enough = λ m b l.
          let far : m ≤ lead (front_of (u ∷ up) ++ (xs ++ zs)) = omega (arith, old, l) in
          let kept : m ≤ lead (front_of (u ∷ up) ++ (balance_on (way_of (u ∷ up)) d ∷ zs)) = lead-bounded m (front_of (u ∷ up)) (xs ++ zs)
          (balance_on (way_of (u ∷ up)) d ∷ zs) (λ j a c. omega (arith, a, b, c, sum, here, long, most)) far in
          omega (arith, new, kept);
    }
  where
    list_inner : List Level → Level → TreeCredit → List Element
    list_inner up v c = list_left (way_of up) v.number v.kind v.left ++ (balance_on (way_of (v ∷ up)) c ∷ list_right (way_of up) v)

pub closes_lead : (next : ℕ) (levels : List Level) (c : TreeCredit) → IsAround levels IsOpen → AreClear levels → RightsNone levels
    → HaveNoSideRecords levels → CountsLess (pending_list (plug levels (Closed c))) (pending_list (closes next levels c).root)
closes_lead next [] c a clear n s = counts_itself (pending_list (Closed c)) tt
closes_lead next (v ∷ up) c a clear n s =
    let g = none_guarded v n.0 in
    subst (λ o. CountsLess (pending_list (plug (v ∷ up) (Closed c))) (pending_list (goal_side_closes next v up c o (closes next up)).root))
    (sym g) (go up (all_closed v c) refl (no_side v up a.0 None g tt) clear n (λ d. closes_lead next up d a.1 clear.1 n.1 s.1))
  where
    go : (above : List Level) (o : Option TreeCredit) → all_closed v c ≡ o → is_side v.kind (length v.left) ≡ false → AreClear (v ∷ above)
        → RightsNone (v ∷ above)
        → ((d : TreeCredit) → CountsLess (pending_list (plug above (Closed d))) (pending_list (closes next above d).root))
        → CountsLess (pending_list (plug (v ∷ above) (Closed c))) (pending_list (folds next v above c o (closes next above)).root)
    go above None e off k r f = counts_itself _ (closed_quiet (v ∷ above) c k r)
    go [] (Some total) e off k r f = counts_itself _ (closed_quiet (v ∷ []) c k r)
    go (u ∷ above) (Some total) e off k r f = counts_then _ _ _ (fold_lead v u above c total s.0 off e k.1 r.1)
        (f (added (credit_of u.spent) total))
