-- The nodes of queries round a place, and that they all are above what is open.
use Rattle.std.proofs.Common.{◌≡◌, inl, inr, ℕ, ◌+◌, false, List, [], ◌∷◌, refl, sym, ap, ◌∙◌, arith}
use Rattle.tree_model.specs.Nodes.{Kind, ChoiceNode, CatchNode, FindallNode, QueryNode, Node, Numbered, Alternatives, none, alternative}
use Rattle.tree_model.specs.Nodes.{Status, Pending, Inner, Closed}
use Rattle.tree_model.specs.Levels.{Level, put_left, level_node, plug}
use Rattle.tree_model.specs.Orders.{is_closed}
use Rattle.tree_model.specs.Ways.{is_query}
use Rattle.tree_model.specs.CaughtTrees.{HasNoQuery, NodeHasNoQuery, HaveNoQuery, HasNoQueryNode, IsNoQueryNode, AreNoQueryNodes, IsDoneBefore}
use Rattle.tree_model.specs.CaughtTrees.{IsLastQuery, IsLastNode, AreLast}
use Rattle.au_term.proofs.LogicLemmas.{false_true}
use Rattle.query_laws.specs.QueriesCounted.{one_for, queries_in, queries_among, queries_below, queries_above}

-- to the left, and all round a place
abbrev pub left_queries : List (ℕ × Status) → ℕ
left_queries [] = 0
left_queries (a ∷ left) = queries_below a.1 + left_queries left

abbrev pub queries_round : List Level → ℕ
queries_round [] = 0
queries_round (v ∷ up) = queries_round up + (one_for v.kind + (left_queries v.left + queries_among v.right))

put_queries : (left : List (ℕ × Status)) (others : Alternatives) → queries_among (put_left left others)
    ≡ left_queries left + queries_among others
put_queries [] others = omega arith
put_queries (a ∷ left) others =
    let h : queries_among (put_left left (alternative a.0 a.1 others)) ≡ left_queries left + (queries_below a.1 + queries_among others)
    = put_queries left (alternative a.0 a.1 others) in
    omega (arith, h)

pub plug_queries : (levels : List Level) (status : Status) → queries_below (plug levels status) ≡ queries_round levels + queries_below status
plug_queries [] status = omega arith
plug_queries (v ∷ up) status =
    let h : queries_below (plug up (Inner (level_node v status)))
    ≡ queries_round up + (one_for v.kind + queries_among (put_left v.left (alternative v.spent status v.right))) =
    plug_queries up (Inner (level_node v status)) in
    let k : queries_among (put_left v.left (alternative v.spent status v.right))
    ≡ left_queries v.left + (queries_below status + queries_among v.right) = put_queries v.left (alternative v.spent status v.right) in
    omega (arith, h, k)

-- none is beside the way down to a place
abbrev pub NoneBeside : List Level → Type 0
NoneBeside [] = Unit {0}
NoneBeside (v ∷ up) = (left_queries v.left ≡ 0) × (queries_among v.right ≡ 0) × NoneBeside up

pub round_above : (levels : List Level) → NoneBeside levels → queries_round levels ≡ queries_above levels
round_above [] h = refl
round_above (v ∷ up) h =
    let k = round_above up h.2 in
    let l = h.0 in
    let r = h.1 in
    omega (arith, k, l, r)

pub placed_queries : (levels : List Level) (status : Status) → NoneBeside levels → queries_below (plug levels status)
    ≡ queries_above levels + queries_below status
placed_queries levels status h = plug_queries levels status ∙ ap (λ n. n + queries_below status) (round_above levels h)

-- where no node is a query's
pub no_query_kind : (kind : Kind) → is_query kind ≡ false → one_for kind ≡ 0
no_query_kind ChoiceNode h = refl
no_query_kind CatchNode h = refl
no_query_kind FindallNode h = refl
no_query_kind QueryNode h = false_true (sym h)

mutual
  none_in : (node : Node) → IsNoQueryNode node → queries_in node ≡ 0
  none_in (Numbered n kind alternatives) h =
      let a = no_query_kind kind h.0 in
      let b = none_among alternatives h.1 in
      omega (arith, a, b)

  none_among : (others : Alternatives) → AreNoQueryNodes others → queries_among others ≡ 0
  none_among none h = refl
  none_among (alternative spent status others) h =
      let a = none_at status h.0 in
      let b = none_among others h.1 in
      omega (arith, a, b)

  none_at : (status : Status) → HasNoQueryNode status → queries_below status ≡ 0
  none_at (Pending hold e) h = refl
  none_at (Closed c) h = refl
  none_at (Inner node) h = none_in node h

mutual
  less_in : (node : Node) → NodeHasNoQuery node → IsNoQueryNode node
  less_in (Numbered n kind alternatives) h = (h.0, less_among alternatives h.1)

  less_among : (others : Alternatives) → HaveNoQuery others → AreNoQueryNodes others
  less_among none h = tt
  less_among (alternative spent status others) h = (less_at status h.0, less_among others h.1)

  less_at : (status : Status) → HasNoQuery status → HasNoQueryNode status
  less_at (Pending hold e) h = tt
  less_at (Closed c) h = tt
  less_at (Inner node) h = less_in node h

mutual
  last_node : (node : Node) → NodeHasNoQuery node → IsLastNode node
  last_node (Numbered n kind alternatives) h = all_last alternatives h.1

  all_last : (others : Alternatives) → HaveNoQuery others → AreLast others
  all_last none h = tt
  all_last (alternative spent status none) h = is_last status h.0
  all_last (alternative spent status (alternative sp other others)) h =
      (h.0, inr (less_among (alternative sp other others) h.1), all_last (alternative sp other others) h.1)

  is_last : (status : Status) → HasNoQuery status → IsLastQuery status
  is_last (Pending hold e) h = tt
  is_last (Closed c) h = tt
  is_last (Inner node) h = last_node node h

-- the alternatives from one on
last_from : (left : List (ℕ × Status)) (sp : ℕ) (status : Status) (others : Alternatives) → AreLast (put_left left (alternative sp status others))
    → (left_queries left ≡ 0) × AreLast (alternative sp status others)
last_from [] sp status others h = (refl, h)
last_from (a ∷ left) sp status others h =
    let k = last_from left a.0 a.1 (alternative sp status others) h in
    let z = none_at a.1 (less_at a.1 k.1.0) in
    let l = k.0 in
    (omega (arith, z, l), k.1.2)

first_last : (sp : ℕ) (status : Status) (others : Alternatives) → AreLast (alternative sp status others) → IsLastQuery status
first_last sp status none h = h
first_last sp status (alternative sq other others) h = is_last status h.0

none_right : (sp : ℕ) (status : Status) (others : Alternatives) → is_closed status ≡ false → AreLast (alternative sp status others)
    → queries_among others ≡ 0
none_right sp status none o h = refl
none_right sp status (alternative sq other others) o h = go h.1
  where
    go : IsDoneBefore status (alternative sq other others) → queries_among (alternative sq other others) ≡ 0
    go (inl c) = false_true (sym o ∙ c)
    go (inr n) = none_among (alternative sq other others) n

-- queries are last at a place
pub last_down : (levels : List Level) (status : Status) → IsLastQuery (plug levels status) → IsLastQuery status
last_down [] status h = h
last_down (v ∷ up) status h = first_last v.spent status v.right
    (last_from v.left v.spent status v.right (last_down up (Inner (level_node v status)) h)).1

pub none_beside : (levels : List Level) (status : Status) → is_closed status ≡ false → IsLastQuery (plug levels status) → NoneBeside levels
none_beside [] status o h = tt
none_beside (v ∷ up) status o h =
    let k = last_from v.left v.spent status v.right (last_down up (Inner (level_node v status)) h) in
    (k.0, none_right v.spent status v.right o k.1, none_beside up (Inner (level_node v status)) refl h)

-- nothing is to the right of the way down to a query
abbrev pub NoRight : List Level → Type 0
NoRight [] = Unit {0}
NoRight (v ∷ up) = (v.right ≡ none) × NoRight up

some_query : (left : List (ℕ × Status)) (others : Alternatives) → (HaveNoQuery others → ⊥) → HaveNoQuery (put_left left others) → ⊥
some_query [] others f h = f h
some_query (a ∷ left) others f h = some_query left (alternative a.0 a.1 others) (λ z. f z.1) h

pub no_right : (levels : List Level) (status : Status) → (HasNoQuery status → ⊥) → IsLastQuery (plug levels status) → NoRight levels
no_right [] status n h = tt
no_right (v ∷ up) status n h = (
  here v.right (last_from v.left v.spent status v.right (last_down up (Inner (level_node v status)) h)).1,
  no_right up (Inner (level_node v status)) (λ z. some_query v.left (alternative v.spent status v.right) (λ y. n y.0) z.1) h,
)
  where
    here : (right : Alternatives) → AreLast (alternative v.spent status right) → right ≡ none
    here none k = refl
    here (alternative sp other others) k = absurd (n k.0)
