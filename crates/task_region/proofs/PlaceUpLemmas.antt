-- The places up from an alternative.
use Rattle.std.proofs.Common.{◌≡◌, ℕ, zero, suc, ◌+◌, ◌<◌, true, false, cond, List, [], ◌∷◌, ◌++◌, map, take, drop, length, get_or, slice_index_or, add-one, Option, Some, None, refl, sym, ap, ap₂, ◌∙◌, subst, arith}
use Rattle.std.proofs.Math.Seq.{drop-cons}
use Rattle.std.specs.Option.{option_map}
use Rattle.std.specs.Prelude.{is_some, slice_get}
use Rattle.au_term.proofs.LogicLemmas.{false_true}
use Rattle.au_model.specs.Terms.Each.{Each}
use Rattle.au_term.specs.declared.segment.Segment.{Segment}
use Rattle.tree_model.specs.EventViews.{place_view}
use Rattle.tree_model.specs.Levels.{Level, Place, place_at}
use Rattle.tree_model.specs.declared.places.AltRef.{AltRef}
use Rattle.tree_nodes.proofs.AddLemmas.{way_same}
use Rattle.tree_nodes.proofs.PlaceLemmas.{AreRound, taken_out}
use Rattle.tree_nodes.specs.Bodies.{Body, BodyKind, ChoiceBody, ConditionBody, CatchBody, FindallBody, QueryBody, Branching, Reading}
use Rattle.tree_nodes.specs.Folds.{IsAbove}
use Rattle.tree_nodes.specs.Rows.{AlternativeCell, InnerCell, StoredNode, Rows, row_of_node, node_parent, alternatives_at}
use Rattle.tree_nodes.specs.TreeTables.{IsBelow, above_of, cell_of, stored_body}
use Rattle.branch_reading.specs.BranchSegments.{above_in_query, segments_on}
use Rattle.task_region.specs.PlacesUp.{IsStepUp, LeadsUp, missing_body, body_at, branching_at, segments_above, is_query_body, IsQueryPart, AreAtNodes, AreFallingPlaces, AreItsLevels, PlacesAreLevels}

-- one more place
pub leads_further : (rows : Rows) (places : List Place) (p : Place) (from to above : Option Place) → LeadsUp rows places from to → to ≡ Some p
    → IsStepUp rows p above → LeadsUp rows (places ++ p ∷ []) from above
leads_further rows [] p from to above h e step = (h ∙ e, (above, (step, refl)))
leads_further rows (q ∷ places) p from to above h e step = (h.0, (h.1.0, (h.1.1.0, leads_further rows places p h.1.0 to above h.1.1.1 e step)))

pub below_all : (above : Option Place) (m n : ℕ) → IsBelow above m → m < n → IsBelow above n
below_all None m n h l = tt
below_all (Some a) m n h l = let first : a.node < m = h in omega arith

all_below : (rows : Rows) (places : List Place) (from : Option Place) (n : ℕ) → LeadsUp rows places from None → IsBelow from n → Each (λ q. q.node < n) places
all_below rows [] from n h b = tt
all_below rows (p ∷ places) from n h b =
    let here : p.node < n = subst (λ o. IsBelow o n) h.0 b in
    (here, all_below rows places h.1.0 n h.1.1.1 (below_all h.1.0 p.node n h.1.1.0.below here))

pub all_fall : (rows : Rows) (places : List Place) (from : Option Place) → LeadsUp rows places from None → AreFallingPlaces places
all_fall rows [] from h = tt
all_fall rows (p ∷ places) from h = (all_below rows places h.1.0 p.node h.1.1.1 h.1.1.0.below, all_fall rows places h.1.0 h.1.1.1)

pub all_there : (rows : Rows) (places : List Place) (from to : Option Place) → LeadsUp rows places from to → AreAtNodes rows places
all_there rows [] from to h = tt
all_there rows (p ∷ places) from to h = (ap is_some h.1.1.0.is, all_there rows places h.1.0 to h.1.1.1)

-- the places of levels
pair_first : {A B : Type 0} {a b : A} {c d : B} (more : List (A × B)) (others : List (A × B)) → a ≡ b → c ≡ d → more ≡ others
    → ◌≡◌ {A = List (A × B)} ((a, c) ∷ more) ((b, d) ∷ others)
pair_first more others e f g = cc

levels_up : (rows : Rows) (read : Reading) (levels : List Level) (way : Branching) (cell : AlternativeCell) → AreRound rows read levels way cell
    → (places : List Place) → LeadsUp rows places (above_of levels) None → AreItsLevels rows levels way places
levels_up rows read [] way cell h [] k = record { levels_are = refl; way_is = sym h }
levels_up rows read [] way cell h (p ∷ places) k = absurd (cc k.0)
levels_up rows read (v ∷ up) way cell h [] k = absurd (cc k)
levels_up rows read (v ∷ up) way cell h (p ∷ places) k =
    let same : place_at v ≡ p = cc k.0 in
    let step = k.1.1.0 in
    let round = h.1.1.1 in
    let here = sym round.row ∙ ap (λ (q : Place). row_of_node rows q.node) same ∙ step.is in
    let above : above_of up ≡ k.1.0 = ap (λ (o : Option StoredNode). parent_or o) here ∙ step.parent in
    let upper = levels_up rows read up h.1.0 (InnerCell v.number) h.1.1.2 places (subst (λ o. LeadsUp rows places o None) (sym above) k.1.1.1) in
    let body : body_at rows p ≡ h.0 = sym (ap (body_at rows) same) ∙ ap (stored_body missing_body) round.row in
    record {
      levels_are = ap₂ (λ (q : Place) (qs : List Place). q ∷ qs) (sym same) upper.levels_are;
      way_is = ap₂ (λ (b : Body) (w : Branching). (b, p.index) ∷ w) body upper.way_is
          ∙ (ap (λ (i : ℕ). (h.0, i) ∷ h.1.0) (sym (ap (λ (q : Place). q.index) same)) ∙ sym h.1.1.0);
    }
  where
    parent_or : Option StoredNode → Option Place
    parent_or None = None
    parent_or (Some r) = r.parent

pub places_are_levels : PlacesAreLevels
places_are_levels nodes read v up was way places stands on leads =
    let k = taken_out nodes.rows read (v ∷ up) was stands.placed in
    let same = way_same nodes.rows read (v ∷ up) k.way way (cell_of was) k.around on in
    subst (λ w. AreItsLevels nodes.rows (v ∷ up) w places) same (levels_up nodes.rows read (v ∷ up) k.way (cell_of was) k.around places leads)

-- from the query on
pub above_by : (kind : BodyKind) (above : List Segment) → above_in_query kind above ≡ cond (is_query_body kind) [] above
above_by ChoiceBody above = refl
above_by ConditionBody above = refl
above_by (CatchBody catcher recovery) above = refl
above_by (FindallBody results list) above = refl
above_by QueryBody above = refl

pub no_part : (rows : Rows) → IsQueryPart rows [] 0
no_part rows = refl

pub part_ends : (rows : Rows) (p : Place) (places : List Place) → is_query_body (body_at rows p).kind ≡ true → IsQueryPart rows (p ∷ places) 1
part_ends rows p places e =
    ap (segments_above rows p) (above_by (body_at rows p).kind (segments_on (branching_at rows places))
    ∙ ap (λ b. cond b [] (segments_on (branching_at rows places))) e)

pub part_goes_on : (rows : Rows) (p : Place) (places : List Place) (n : ℕ) → is_query_body (body_at rows p).kind ≡ false → IsQueryPart rows places n
    → IsQueryPart rows (p ∷ places) (suc n)
part_goes_on rows p places n e h =
    ap (segments_above rows p) (above_by (body_at rows p).kind (segments_on (branching_at rows places))
    ∙ (ap (λ b. cond b [] (segments_on (branching_at rows places))) e ∙ h))

-- while the way up is walked
abbrev pub IsThere : Rows → Option Place → Type 0
IsThere rows None = Unit {0}
IsThere rows (Some a) = is_some (row_of_node rows a.node) ≡ true

abbrev pub number_of : Option Place → ℕ
number_of None = 0
number_of (Some a) = suc a.node

row_there : (o : Option StoredNode) (i : ℕ) → is_some (slice_get (alternatives_at o) i) ≡ true → is_some o ≡ true
row_there None i h = h
row_there (Some r) i h = refl

pub above_there : (rows : Rows) (above : Option Place) (n : ℕ) → IsAbove rows above n → IsThere rows above
above_there rows None n h = tt
above_there rows (Some a) n h = row_there (row_of_node rows a.node) a.index h.0

pub above_below : (rows : Rows) (above : Option Place) (n : ℕ) → IsAbove rows above n → IsBelow above n
above_below rows None n h = tt
above_below rows (Some a) n h = h.1

pub above_falls : (rows : Rows) (above : Option Place) (n : ℕ) → IsAbove rows above n → number_of above < suc n
above_falls rows None n h = omega arith
above_falls rows (Some a) n h = let less : a.node < n = h.1 in omega arith

pub step_up : (rows : Rows) (p : Place) (above : Option Place) → is_some (row_of_node rows p.node) ≡ true → node_parent rows p.node ≡ Some above
    → IsAbove rows above p.node → IsStepUp rows p above
step_up rows p above there parent h = by_row (row_of_node rows p.node) refl there (parent)
  where
    by_row : (o : Option StoredNode) → row_of_node rows p.node ≡ o → is_some o ≡ true
        → option_map (λ r. r.parent) (row_of_node rows p.node) ≡ Some above → IsStepUp rows p above
    by_row None e s k = false_true s
    by_row (Some r) e s k =
        let same : Some r.parent ≡ Some above = sym (ap (option_map (λ (x : StoredNode). x.parent)) e) ∙ k in
        record { row = r; is = e; parent = cc same; below = above_below rows above p.node h }

-- by indexes
pub node_at : (rows : Rows) (xs : List AltRef) → AreAtNodes rows (map place_view xs) → (i : ℕ) (d : AltRef) → i < length xs
    → is_some (row_of_node rows (slice_index_or xs i d).node) ≡ true
node_at rows [] h i d l = absurd (omega arith)
node_at rows (x ∷ xs) h zero d l = h.0
node_at rows (x ∷ xs) h (suc i) d l = node_at rows xs h.1 i d (omega arith)

module _ (rows : Rows) (xs : List AltRef) (i : ℕ) (d : AltRef) (within : i < length xs) where
  from_here : map place_view (drop i xs) ≡ place_view (get_or xs i d) ∷ map place_view (drop (suc i) xs)
  from_here = ap (map place_view) (drop-cons xs i d within)

  module _ (count : ℕ) (part : (n : ℕ) → IsQueryPart rows (map place_view (drop i xs)) n → IsQueryPart rows (map place_view xs) (count + n)) where
    pub part_here : is_query_body (body_at rows (place_view (get_or xs i d))).kind ≡ true → IsQueryPart rows (map place_view xs) (count + 1)
    part_here e = part 1 (subst (λ ps. IsQueryPart rows ps 1) (sym from_here) (part_ends rows (place_view (get_or xs i d))
        (map place_view (drop (suc i) xs)) e))

    pub part_after : is_query_body (body_at rows (place_view (get_or xs i d))).kind ≡ false → (n : ℕ)
        → IsQueryPart rows (map place_view (drop (i + 1) xs)) n → IsQueryPart rows (map place_view xs) (count + 1 + n)
    part_after e n h =
        let rest : IsQueryPart rows (map place_view (drop (suc i) xs)) n = subst (λ k. IsQueryPart rows (map place_view (drop k xs)) n) (add-one i) h in
        let more = part_goes_on rows (place_view (get_or xs i d)) (map place_view (drop (suc i) xs)) n e rest in
        let sum : count + suc n ≡ count + 1 + n = omega arith in
        subst (IsQueryPart rows (map place_view xs)) sum (part (suc n) (subst (λ ps. IsQueryPart rows ps (suc n)) (sym from_here) more))

pub nodes_front : (rows : Rows) (xs : List AltRef) (n : ℕ) → AreAtNodes rows (map place_view xs) → AreAtNodes rows (map place_view (take n xs))
nodes_front rows xs zero h = tt
nodes_front rows [] (suc n) h = tt
nodes_front rows (x ∷ xs) (suc n) h = (h.0, nodes_front rows xs n h.1)
