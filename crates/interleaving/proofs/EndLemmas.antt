-- Where something under a query is pending, the end of the query is still to come.
use Rattle.std.proofs.Common.{◌≡◌, ℕ, suc, ◌≤◌, ◌<◌, ◌==◌, ◌⊎◌, inl, inr, Bool, true, false, cond, List, [], ◌∷◌, ◌++◌, map, length}
use Rattle.std.proofs.Common.{Option, None, refl, sym, ap, ◌∙◌, subst, arith}
use Rattle.std.specs.Prelude.{nat_le}
use Rattle.au_term.specs.Term.{Term}
use Rattle.run_model.specs.Programs.Clauses.{Clause}
use Rattle.run_model.specs.Machine.Entries.{Entry, PlainEntry, CatchEntry, FindallEntry, EndEntry}
use Rattle.tree_model.specs.Nodes.{Kind, ChoiceNode, CatchNode, FindallNode, QueryNode, Ready, TakenBy, Waiting, Dormant, Alternatives}
use Rattle.tree_model.specs.Nodes.{none, alternative, Status, Pending, Inner, Closed}
use Rattle.tree_model.specs.Levels.{Level, plug, Spot, levels_of}
use Rattle.tree_model.specs.TreeStates.{TreeState, leftmost}
use Rattle.tree_model.specs.Elements.{Record, Element, Credit, Plain, EndOf, Catch, Findall, End}
use Rattle.tree_model.specs.PendingLists.{Way, way_of, element_on, list_among, list_below, pending_list, list_right, spent_at, front_of}
use Rattle.tree_model.specs.PendingLists.{back_of}
use Rattle.tree_model.specs.Ways.{under_query, is_query, IsOnWay}
use Rattle.tree_model.specs.SoundTrees.{IsOpen, profiles, is_shape, are_pair, IsSound, IsSoundTree}
use Rattle.interleaving.specs.Machine.{Act, Drops, Becomes, Infers, AsksWorld, gives, freed, free_steps, is_finished}
use Rattle.interleaving.specs.Scopes.{Shared, Sought, scoped}
use Rattle.interleaving.specs.Quiet.{IsQuiet, inferences, records}
use Rattle.interleaving.specs.Readings.{has_ended}
use Rattle.interleaving.specs.Follows.{lead}
use Rattle.interleaving.proofs.ListRoundLemmas.{around}
use Rattle.interleaving.proofs.ContextLemmas.{IsLevel, IsAround, put_profiles, level_profiles, taken_out}
use Rattle.interleaving.proofs.RunFrontLemmas.{take_free-map}
use Rattle.interleaving.proofs.QuietCreditLemmas.{gives-fixed}
use Rattle.interleaving.proofs.PassingLemmas.{credits_pass}
use Rattle.interleaving.proofs.LeadLemmas.{IsParted, parted, goes_on}
use Rattle.interleaving.proofs.ClockLemmas.{IsFirst, none_left}
use Rattle.au_term.proofs.LogicLemmas.{false_true}

-- whether the end of a query is in a list
abbrev pub has_end : List Element → Bool
has_end [] = false
has_end (End p b ∷ xs) = true
has_end (Credit k rs ∷ xs) = has_end xs
has_end (Plain p f ∷ xs) = has_end xs
has_end (EndOf s ∷ xs) = has_end xs
has_end (Catch s u c r p f ∷ xs) = has_end xs
has_end (Findall s u results list p f ∷ xs) = has_end xs

pub end_after : (xs ys : List Element) → has_end ys ≡ true → has_end (xs ++ ys) ≡ true
end_after [] ys h = h
end_after (End p b ∷ xs) ys h = refl
end_after (Credit k rs ∷ xs) ys h = end_after xs ys h
end_after (Plain p f ∷ xs) ys h = end_after xs ys h
end_after (EndOf s ∷ xs) ys h = end_after xs ys h
end_after (Catch s u c r p f ∷ xs) ys h = end_after xs ys h
end_after (Findall s u results list p f ∷ xs) ys h = end_after xs ys h

pub end_before : (xs ys : List Element) → has_end xs ≡ true → has_end (xs ++ ys) ≡ true
end_before [] ys h = let no_way : ⊥ = cc in absurd no_way
end_before (End p b ∷ xs) ys h = refl
end_before (Credit k rs ∷ xs) ys h = end_before xs ys h
end_before (Plain p f ∷ xs) ys h = end_before xs ys h
end_before (EndOf s ∷ xs) ys h = end_before xs ys h
end_before (Catch s u c r p f ∷ xs) ys h = end_before xs ys h
end_before (Findall s u results list p f ∷ xs) ys h = end_before xs ys h

pub quiet_no_end : (xs : List Element) → IsQuiet xs → has_end xs ≡ true → ⊥
quiet_no_end [] q h = let no_way : ⊥ = cc in no_way
quiet_no_end (End p b ∷ xs) q h = q
quiet_no_end (Credit k rs ∷ xs) q h = quiet_no_end xs q h
quiet_no_end (Plain p f ∷ xs) q h = q
quiet_no_end (EndOf s ∷ xs) q h = quiet_no_end xs q h
quiet_no_end (Catch s u c r p f ∷ xs) q h = quiet_no_end xs q h
quiet_no_end (Findall s u results list p f ∷ xs) q h = q

end_past_quiet : (xs ys : List Element) → IsQuiet xs → has_end (xs ++ ys) ≡ true → has_end ys ≡ true
end_past_quiet [] ys q h = h
end_past_quiet (End p b ∷ xs) ys q h = absurd q
end_past_quiet (Credit k rs ∷ xs) ys q h = end_past_quiet xs ys q h
end_past_quiet (Plain p f ∷ xs) ys q h = absurd q
end_past_quiet (EndOf s ∷ xs) ys q h = end_past_quiet xs ys q h
end_past_quiet (Catch s u c r p f ∷ xs) ys q h = end_past_quiet xs ys q h
end_past_quiet (Findall s u results list p f ∷ xs) ys q h = absurd q

-- the free steps never pass the end of a query
freed_stays : (clauses : List Clause) (a : Act Shared Element Sought Record) (y : Element) (go : List Record → List Element)
    (ys : List Element) → ((new : List Record) → is_finished (go new) ≡ false) → is_finished (freed (scoped clauses) a y go ys) ≡ false
freed_stays clauses (Drops new) y go ys h = h new
freed_stays clauses (Becomes z) y go ys h = refl
freed_stays clauses (Infers p) y go ys h = refl
freed_stays clauses (AsksWorld g) y go ys h = refl

pub steps_end_before : (clauses : List Clause) (rs : List Record) (xs : List Element) → has_end xs ≡ true
    → is_finished (free_steps (scoped clauses) rs xs) ≡ false
steps_end_before clauses rs [] h = let no_way : ⊥ = cc in absurd no_way
steps_end_before clauses rs (End p b ∷ xs) h = ap
    (λ y. is_finished (freed (scoped clauses) ((scoped clauses).act y) y (λ new. free_steps (scoped clauses) (rs ++ new) xs)
    (map (gives (scoped clauses) rs) xs))) (gives-fixed clauses rs (End p b) tt)
steps_end_before clauses rs (Credit k qs ∷ xs) h = freed_stays clauses _ _ (λ new. free_steps (scoped clauses) (rs ++ new) xs) _
    (λ new. steps_end_before clauses (rs ++ new) xs h)
steps_end_before clauses rs (Plain p f ∷ xs) h = freed_stays clauses _ _ (λ new. free_steps (scoped clauses) (rs ++ new) xs) _
    (λ new. steps_end_before clauses (rs ++ new) xs h)
steps_end_before clauses rs (EndOf s ∷ xs) h = freed_stays clauses _ _ (λ new. free_steps (scoped clauses) (rs ++ new) xs) _
    (λ new. steps_end_before clauses (rs ++ new) xs h)
steps_end_before clauses rs (Catch s u c r p f ∷ xs) h = freed_stays clauses _ _ (λ new. free_steps (scoped clauses) (rs ++ new) xs) _
    (λ new. steps_end_before clauses (rs ++ new) xs h)
steps_end_before clauses rs (Findall s u results list p f ∷ xs) h = freed_stays clauses _ _
    (λ new. free_steps (scoped clauses) (rs ++ new) xs) _ (λ new. steps_end_before clauses (rs ++ new) xs h)

-- so a run is not over before it comes to it
pub not_over : (clauses : List Clause) (xs : List Element) (n : ℕ) (w : Shared) → has_end xs ≡ true → n ≤ lead xs
    → has_ended clauses w xs n ≡ false
not_over clauses xs n w e l = go (nat_le (lead xs) n) refl
  where
    h : IsParted xs
    h = parted xs

    rest_end : has_end h.rest ≡ true
    rest_end = end_past_quiet h.front h.rest h.quiet (subst (λ ys. has_end ys ≡ true) h.joined e)

    passed : has_ended clauses w xs (inferences h.front) ≡ false
    passed =
        ap (λ ys. has_ended clauses w ys (inferences h.front)) h.joined
        ∙ (ap (λ s. is_finished s.1) (credits_pass clauses h.front h.rest w h.quiet).passed
        ∙ (ap is_finished (sym (take_free-map (scoped clauses) (records h.front) h.rest)) ∙ steps_end_before clauses (records h.front) h.rest
        rest_end))

    go : (b : Bool) → nat_le (lead xs) n ≡ b → has_ended clauses w xs n ≡ false
    go true q = let high : lead xs ≤ n = grind arith in let same : inferences h.front
        ≡ n = let c = h.counted in omega (arith, c, high, l) in subst (λ k. has_ended clauses w xs k ≡ false) same passed
    go false q = let low : n < lead xs = grind arith in goes_on clauses xs n w low

-- the goal side of a query's node has its end on its right
pub record HasQueryEnd (v : Level) : Type 0 where
  pub spent : ℕ
  pub ball : Option Term
  pub left : v.left ≡ []
  pub right : v.right ≡ alternative spent (Pending Dormant (EndEntry ball)) none

query_pair : (v : Level) (up : List Level) → v.kind ≡ QueryNode → (length v.left == 0) ≡ true → IsLevel up v IsOpen → HasQueryEnd v
query_pair v up k z i = left_end v.left refl z
  where
    shape : are_pair QueryNode (level_profiles v IsOpen) ≡ true
    shape = subst (λ kind. is_shape kind (level_profiles v IsOpen) ≡ true) k i.shape

    right_end : (r : Alternatives) → v.right ≡ r → v.left ≡ [] → are_pair QueryNode (IsOpen ∷ profiles r) ≡ true → HasQueryEnd v
    right_end none e l h = false_true h
    right_end (alternative sp status (alternative sq other others)) e l h = false_true h
    right_end (alternative sp (Closed c) none) e l h = false_true h
    right_end (alternative sp (Inner node) none) e l h = false_true h
    right_end (alternative sp (Pending Ready x) none) e l h = false_true h
    right_end (alternative sp (Pending (TakenBy w) x) none) e l h = false_true h
    right_end (alternative sp (Pending (Waiting g) x) none) e l h = false_true h
    right_end (alternative sp (Pending Dormant (PlainEntry f)) none) e l h = false_true h
    right_end (alternative sp (Pending Dormant (CatchEntry c r f)) none) e l h = false_true h
    right_end (alternative sp (Pending Dormant (FindallEntry results list f)) none) e l h = false_true h
    right_end (alternative sp (Pending Dormant (EndEntry b)) none) e l h = record { spent = sp; ball = b; left = l; right = e }

    left_end : (left : List (ℕ × Status)) → v.left ≡ left → (length v.left == 0) ≡ true → HasQueryEnd v
    left_end [] e z = right_end v.right refl e (subst (λ l. are_pair QueryNode (put_profiles l (IsOpen ∷ profiles v.right)) ≡ true) e shape)
    left_end (a ∷ left) e z = false_true (more (length left) (ap (λ l. length l == 0) (sym e) ∙ z))
      where
        more : (n : ℕ) → (suc n == 0) ≡ true → false ≡ true
        more n h = let no_way : ⊥ = grind arith in absurd no_way

is-query : (k : Kind) → is_query k ≡ true → k ≡ QueryNode
is-query QueryNode h = refl
is-query ChoiceNode h = false_true h
is-query CatchNode h = false_true h
is-query FindallNode h = false_true h

-- a level is a query's goal side, or the query is above it
pub query_here : (v : Level) (up : List Level) → IsLevel up v IsOpen → under_query (way_of (v ∷ up)) ≡ true
    → (is_query v.kind ≡ true × HasQueryEnd v) ⊎ ((is_query v.kind ≡ false) × (under_query (way_of up) ≡ true))
query_here v up i u = go (is_query v.kind) refl u
  where
    go : (b : Bool) → is_query v.kind ≡ b → cond b (length v.left == 0) (under_query (way_of up)) ≡ true
        → (is_query v.kind ≡ true × HasQueryEnd v) ⊎ ((is_query v.kind ≡ false) × (under_query (way_of up) ≡ true))
    go true e z = inl (e, query_pair v up (is-query v.kind e) z i)
    go false e z = inr (e, z)

right_has_end : (way : Way) (v : Level) → HasQueryEnd v → has_end (list_right way v) ≡ true
right_has_end way v h = subst (λ r. has_end (list_among way v.number v.kind (suc (length v.left)) r) ≡ true) (sym h.right) refl

pub back_end : (levels : List Level) → IsAround levels IsOpen → under_query (way_of levels) ≡ true → has_end (back_of levels) ≡ true
back_end [] h u = false_true u
back_end (v ∷ up) h u = pick (query_here v up h.0 u) (λ q. back_end up h.1 q)
  where
    pick : (is_query v.kind ≡ true × HasQueryEnd v) ⊎ ((is_query v.kind ≡ false) × (under_query (way_of up) ≡ true))
        → (under_query (way_of up) ≡ true → has_end (back_of up) ≡ true) → has_end (back_of (v ∷ up)) ≡ true
    pick (inl q) f = end_before (list_right (way_of up) v) (back_of up) (right_has_end (way_of up) v q.1)
    pick (inr q) f = end_after (list_right (way_of up) v) (back_of up) (f q.1)

-- the list of a tree round a place under a query
pub round_end : (levels : List Level) (status : Status) → has_end (back_of levels) ≡ true → has_end (pending_list (plug levels status))
    ≡ true
round_end levels status h = ap has_end (around levels status)
    ∙ end_after (front_of levels) _ (end_after (list_below (way_of levels) (spent_at levels) status) (back_of levels) h)

-- where the list has an end something is pending
pub end_pending : (t : TreeState) → IsSoundTree t → has_end (pending_list t.root) ≡ true → leftmost t ≡ None → ⊥
end_pending t h e l = quiet_no_end (pending_list t.root) (none_left t h l) e

-- an open place: its entry is an end, or under a query
pub entry_end : (levels : List Level) (e : Entry) → IsAround levels IsOpen → IsOnWay (way_of levels) e
    → has_end (element_on (way_of levels) e ∷ back_of levels) ≡ true
entry_end [] (EndEntry b) h i = refl
entry_end (v ∷ up) (EndEntry b) h i = refl
entry_end levels (PlainEntry f) h i = end_after (element_on (way_of levels) (PlainEntry f) ∷ []) (back_of levels)
    (back_end levels h i.asked)
entry_end [] (CatchEntry c r f) h i = false_true i.asked
entry_end (v ∷ up) (CatchEntry c r f) h i = end_after (list_right (way_of up) v) (back_of up) (back_end up h.1 i.asked)
entry_end [] (FindallEntry results l f) h i = false_true i.asked
entry_end (v ∷ up) (FindallEntry results l f) h i = end_after (list_right (way_of up) v) (back_of up) (back_end up h.1 i.asked)

pub first_end : (t : TreeState) (s : Spot) → IsSoundTree t → IsFirst t s → has_end (pending_list t.root) ≡ true
first_end t s h k =
    let parts = taken_out (levels_of s) (Pending s.hold s.entry) (subst (IsSound []) (sym k.inside) h.sound) in
    ap has_end k.list ∙ end_after (front_of (levels_of s)) _
    (entry_end (levels_of s) s.entry (subst (IsAround (levels_of s)) k.opened parts.0) parts.1.0)
