-- Bindings made in a region.
use Rattle.std.proofs.Common.{◌≡◌, ℕ, suc, ◌+◌, ◌<◌, ◌≤◌, true, List, [], ◌∷◌, ◌++◌, append_assoc, add-one, map, take, drop, length, get_or, Option, Some, None, refl, sym, ap, ◌∙◌, subst}
use Rattle.std.proofs.Math.Seq.{drop-cons, take-suc}
use Rattle.std.proofs.lemmas.List.{append-nil, map-append, take-append-drop}
use Rattle.std.proofs.lemmas.Option.{slice_get_past, slice_get_read}
use Rattle.std.specs.Option.{option_map}
use Rattle.std.specs.Prelude.{slice_get}
use Rattle.au_term.proofs.LogicLemmas.{both}
use Rattle.au_term.specs.Term.{Term}
use Rattle.au_term.specs.declared.segment.Binding.{Binding}
use Rattle.au_term.specs.declared.segment.Segment.{Segment}
use Rattle.au_model.proofs.UnifierRuleLemmas.{below}
use Rattle.au_model.specs.Terms.Substitutions.{value_of, resolve, occurs}
use Rattle.binding_array.specs.Represented.{IsFalling, cell_term}
use Rattle.binding_array.specs.declared.cell.BindingCell.{BindingCell}
use Rattle.binding_array.specs.declared.cell.BindingCell.TheVariants.{Free, Var, Int, Atom, Compound}
use Rattle.cell_store.specs.StoreView.{StoreView, AddsText, BindsFurther, CanBeBound, IsValueIn, meaning, value_term}
use Rattle.clause_compile.specs.Places.{CodeView}
use Rattle.clause_compile.specs.declared.event.Branch.{Branch}
use Rattle.region_split.specs.Regions.{RegionView}
use Rattle.tree_model.specs.EventViews.{place_view}
use Rattle.tree_model.specs.Levels.{Place}
use Rattle.tree_model.specs.declared.places.AltRef.{AltRef}
use Rattle.tree_nodes.specs.Bodies.{Body}
use Rattle.tree_nodes.specs.Rows.{StoredNode, Rows}
use Rattle.tree_nodes.specs.TreeTables.{stored_body}
use Rattle.branch_reading.specs.BranchSegments.{own_segments, bindings_on, next_number}
use Rattle.branch_reading.specs.SettledWays.{is_bound_back, are_bindings_settled}
use Rattle.task_region.specs.MadeInTurn.{IsMadeBy, CanMake, Makes}
use Rattle.task_region.specs.PlacesUp.{missing_body, body_at, segments_above, segments_at}
use Rattle.task_region.proofs.MadeLemmas.{settled-front, last_settled, bound_next}

falls_to : (code : CodeView) (v : ℕ) (t : Term) (value : BindingCell) → cell_term code value ≡ t → is_bound_back v t ≡ true → IsFalling v value
falls_to code v t Free e h = tt
falls_to code v t (Var w) e h = below w v (ap (is_bound_back v) e ∙ h)
falls_to code v t (Int z) e h = tt
falls_to code v t (Atom a) e h = tt
falls_to code v t (Compound at base) e h = tt

-- one binding, whose value was copied in
module _ (old mid : RegionView) (b : Binding) (value : BindingCell) (adds : AddsText old.store mid.store) (there : IsValueIn mid.store value)
    (term : value_term mid.store value ≡ b.value) where
  meant : meaning mid.store value ≡ resolve old.store.now.bound b.value
  meant = ap (λ s. resolve s (value_term mid.store value)) adds.bound ∙ ap (resolve old.store.now.bound) term

  pub can_bind : CanMake old (b ∷ []) → CanBeBound mid.store b.var value
  can_bind can =
      let next = old.store.now.next in
      let last = last_settled next can.before b can.settled in
      let bound = bound_next next can.before b old.store.now.bound can.made can.settled in
      let parts = both _ _ last.binding in
      record {
        there = subst (λ n. b.var < n) (sym adds.next) (below b.var next parts.0);
        free = ap (λ s. value_of s b.var) adds.bound ∙ bound.free;
        value = there;
        falling = falls_to _ b.var b.value value term (both _ _ parts.1).1;
        apart = ap (occurs b.var) meant ∙ bound.apart;
      }

  pub makes_one : (new : RegionView) → mid ≡ record old { store = mid.store } → new ≡ record mid { store = new.store }
      → BindsFurther mid.store new.store ((b.var, meaning mid.store value) ∷ []) → Makes old new (b ∷ [])
  makes_one new kept stays binds = record {
    made = λ before made settled.
        (bound_next old.store.now.next before b old.store.now.bound made settled).makes new.store.now.bound
        (λ n. binds.bound n ∙ (ap (λ t. resolve ((b.var, t) ∷ []) (value_of mid.store.now.bound n)) meant
        ∙ ap (λ s. resolve ((b.var, resolve old.store.now.bound b.value) ∷ []) (value_of s n)) adds.bound));
    next = ap (λ (s : StoreView). s.now.next) binds.others ∙ adds.next;
    others = stays ∙ ap (λ (r : RegionView). record r { store = new.store }) kept;
  }

-- in turn
pub makes_none : (r : RegionView) → Makes r r []
makes_none r = record {
  made = λ before made settled. subst (λ bs. IsMadeBy bs r.store.now.bound) (sym (append-nil before)) made;
  next = refl;
  others = refl;
}

settled-split : (next : ℕ) (before xs ys : List Binding) → are_bindings_settled next (before ++ (xs ++ ys)) ≡ true
    → are_bindings_settled next ((before ++ xs) ++ ys) ≡ true
settled-split next before xs ys h = ap (are_bindings_settled next) (append_assoc before xs ys) ∙ h

pub makes_more : (a b c : RegionView) (xs ys : List Binding) → Makes a b xs → Makes b c ys → Makes a c (xs ++ ys)
makes_more a b c xs ys first second = record {
  made = λ before made settled.
      let split = settled-split a.store.now.next before xs ys settled in
      let upper = first.made before made (settled-front a.store.now.next (before ++ xs) ys split) in
      subst (λ bs. IsMadeBy bs c.store.now.bound) (append_assoc before xs ys)
      (second.made (before ++ xs) upper (subst (λ n. are_bindings_settled n ((before ++ xs) ++ ys) ≡ true) (sym first.next) split));
  next = second.next ∙ first.next;
  others = second.others ∙ ap (λ (r : RegionView). record r { store = c.store }) first.others;
}

pub can_front : (a : RegionView) (xs ys : List Binding) → CanMake a (xs ++ ys) → CanMake a xs
can_front a xs ys can = record {
  before = can.before;
  made = can.made;
  settled = settled-front a.store.now.next (can.before ++ xs) ys (settled-split a.store.now.next can.before xs ys can.settled);
}

pub can_go_on : (a b : RegionView) (xs ys : List Binding) → CanMake a (xs ++ ys) → Makes a b xs → CanMake b ys
can_go_on a b xs ys can first =
    let split = settled-split a.store.now.next can.before xs ys can.settled in
    record {
      before = can.before ++ xs;
      made = first.made can.before can.made (settled-front a.store.now.next (can.before ++ xs) ys split);
      settled = subst (λ n. are_bindings_settled n ((can.before ++ xs) ++ ys) ≡ true) (sym first.next) split;
    }

-- the bindings at a place
abbrev pub own_bindings : Option Branch → List Binding
own_bindings None = []
own_bindings (Some b) = b.segment.bindings

own_above : (o : Option Branch) (s : Segment) (above : List Segment)
    → bindings_on (own_segments o ++ s ∷ above) ≡ bindings_on above ++ (s.bindings ++ own_bindings o)
own_above None s above = ap (λ bs. bindings_on above ++ bs) (sym (append-nil s.bindings))
own_above (Some b) s above = append_assoc (bindings_on above) s.bindings b.segment.bindings

pub place_bindings : (rows : Rows) (p : Place) (body : Body) → body_at rows p ≡ body
    → bindings_on (segments_at rows (p ∷ [])) ≡ body.segment.bindings ++ own_bindings (slice_get body.branches p.index)
place_bindings rows p body e =
    own_above (slice_get (body_at rows p).branches p.index) (body_at rows p).segment []
    ∙ ap (λ (b : Body). b.segment.bindings ++ own_bindings (slice_get b.branches p.index)) e

pub own_over : (rows : Rows) (p : Place) (above : List Segment)
    → bindings_on (segments_above rows p above) ≡ bindings_on above ++ bindings_on (segments_at rows (p ∷ []))
own_over rows p above =
    own_above (slice_get (body_at rows p).branches p.index) (body_at rows p).segment above
    ∙ ap (λ bs. bindings_on above ++ bs) (sym (own_above (slice_get (body_at rows p).branches p.index) (body_at rows p).segment []))

pub one_above : (rows : Rows) (p : Place) (places : List Place)
    → bindings_on (segments_at rows (p ∷ places)) ≡ bindings_on (segments_at rows places) ++ bindings_on (segments_at rows (p ∷ []))
one_above rows p places = own_over rows p (segments_at rows places)

pub bindings-split : (rows : Rows) (xs ys : List Place)
    → bindings_on (segments_at rows (xs ++ ys)) ≡ bindings_on (segments_at rows ys) ++ bindings_on (segments_at rows xs)
bindings-split rows [] ys = sym (append-nil (bindings_on (segments_at rows ys)))
bindings-split rows (p ∷ xs) ys =
    one_above rows p (xs ++ ys) ∙ (ap (λ bs. bs ++ bindings_on (segments_at rows (p ∷ []))) (bindings-split rows xs ys)
    ∙ (append_assoc (bindings_on (segments_at rows ys)) (bindings_on (segments_at rows xs)) (bindings_on (segments_at rows (p ∷ [])))
    ∙ ap (λ bs. bindings_on (segments_at rows ys) ++ bs) (sym (one_above rows p xs))))

-- the places from one on, and that before them
module _ (rows : Rows) (a b : RegionView) (above : List Place) (p : Place) (below : List Place) where
  pub can_bind_place : CanMake a (bindings_on (segments_at rows (below ++ p ∷ above))) → Makes a b (bindings_on (segments_at rows above))
      → CanMake b (bindings_on (segments_at rows (p ∷ [])))
  can_bind_place can made =
      let whole = subst (CanMake a) (bindings-split rows below (p ∷ above)) can in
      let upper = can_front a (bindings_on (segments_at rows (p ∷ above))) (bindings_on (segments_at rows below)) whole in
      can_go_on a b (bindings_on (segments_at rows above)) (bindings_on (segments_at rows (p ∷ []))) (subst (CanMake a) (one_above rows p above) upper) made

  pub makes_place : (c : RegionView) → Makes a b (bindings_on (segments_at rows above)) → Makes b c (bindings_on (segments_at rows (p ∷ [])))
      → Makes a c (bindings_on (segments_at rows (p ∷ above)))
  makes_place c first second =
      subst (Makes a c) (sym (one_above rows p above)) (makes_more a b c (bindings_on (segments_at rows above))
      (bindings_on (segments_at rows (p ∷ []))) first second)

-- the next number at a place
pub next_some : (rows : Rows) (p : Place) (body : Body) (b : Branch) (above : List Place) → body_at rows p ≡ body → slice_get body.branches p.index ≡ Some b
    → next_number (segments_at rows (p ∷ above)) ≡ b.segment.base + b.segment.vars
next_some rows p body b above e f =
    ap (λ (d : Body). next_number (own_segments (slice_get d.branches p.index) ++ d.segment ∷ segments_at rows above)) e
    ∙ ap (λ o. next_number (own_segments o ++ body.segment ∷ segments_at rows above)) f

pub next_none : (rows : Rows) (p : Place) (body : Body) (above : List Place) → body_at rows p ≡ body → slice_get body.branches p.index ≡ None
    → next_number (segments_at rows (p ∷ above)) ≡ body.segment.base + body.segment.vars
next_none rows p body above e f =
    ap (λ (d : Body). next_number (own_segments (slice_get d.branches p.index) ++ d.segment ∷ segments_at rows above)) e
    ∙ ap (λ o. next_number (own_segments o ++ body.segment ∷ segments_at rows above)) f

-- which does not depend on what is above
pub next_alone : (rows : Rows) (p : Place) (above : List Place) → next_number (segments_at rows (p ∷ above)) ≡ next_number (segments_at rows (p ∷ []))
next_alone rows p above = by_own (slice_get (body_at rows p).branches p.index)
  where
    by_own : (o : Option Branch) → next_number (own_segments o ++ (body_at rows p).segment ∷ segments_at rows above)
        ≡ next_number (own_segments o ++ (body_at rows p).segment ∷ [])
    by_own None = refl
    by_own (Some b) = refl

-- the next number after a segment, and the bindings of a body's own segments
pub stored : (o : Option StoredNode) (b : Body) → option_map (λ r. r.body) o ≡ Some b → stored_body missing_body o ≡ b
stored None b e = absurd (cc e)
stored (Some r) b e = cc e

module _ (rows : Rows) (p : Place) (body : Body) (is : body_at rows p ≡ body) where
  pub can_bind_node : (a : RegionView) → CanMake a (bindings_on (segments_at rows (p ∷ []))) → CanMake a body.segment.bindings
  can_bind_node a can = can_front a body.segment.bindings (own_bindings (slice_get body.branches p.index))
      (subst (CanMake a) (place_bindings rows p body is) can)

  module _ (a b : RegionView) (made : Makes a b body.segment.bindings) where
    pub can_bind_branch : (branch : Branch) → slice_get body.branches p.index ≡ Some branch → CanMake a (bindings_on (segments_at rows (p ∷ [])))
        → CanMake b branch.segment.bindings
    can_bind_branch branch e can =
        subst (λ o. CanMake b (own_bindings o)) e
        (can_go_on a b body.segment.bindings (own_bindings (slice_get body.branches p.index)) (subst (CanMake a) (place_bindings rows p body is) can) made)

    pub makes_branch : (c : RegionView) (branch : Branch) → slice_get body.branches p.index ≡ Some branch → Makes b c branch.segment.bindings
        → Makes a c (bindings_on (segments_at rows (p ∷ [])))
    makes_branch c branch e more =
        subst (Makes a c) (ap (λ o. body.segment.bindings ++ own_bindings o) (sym e) ∙ sym (place_bindings rows p body is))
        (makes_more a b c body.segment.bindings branch.segment.bindings made more)

    pub makes_node : slice_get body.branches p.index ≡ None → Makes a b (bindings_on (segments_at rows (p ∷ [])))
    makes_node e =
        subst (Makes a b)
        (sym (append-nil body.segment.bindings) ∙ (ap (λ o. body.segment.bindings ++ own_bindings o) (sym e) ∙ sym (place_bindings rows p body is))) made

-- one after another
module _ (a b : RegionView) (xs : List Binding) (i : ℕ) (x : Binding) (here : x ≡ get_or xs i x) (within : i < length xs) (made : Makes a b (take i xs)) where
  rest_is : drop i xs ≡ x ∷ drop (suc i) xs
  rest_is = drop-cons xs i x within ∙ ap (λ y. y ∷ drop (suc i) xs) (sym here)

  pub can_bind_at : CanMake a xs → CanMake b (x ∷ [])
  can_bind_at can =
      can_front b (x ∷ []) (drop (suc i) xs)
      (subst (CanMake b) rest_is (can_go_on a b (take i xs) (drop i xs) (subst (CanMake a) (sym (take-append-drop i xs)) can) made))

  pub makes_at : (c : RegionView) → Makes b c (x ∷ []) → Makes a c (take (i + 1) xs)
  makes_at c more =
      let taken : take (i + 1) xs ≡ take i xs ++ x ∷ [] = ap (λ n. take n xs) (add-one i)
      ∙ (take-suc xs i x within ∙ ap (λ y. take i xs ++ y ∷ []) (sym here)) in
      subst (Makes a c) (sym taken) (makes_more a b c (take i xs) (x ∷ []) made more)

-- down the places
module _ (rows : Rows) (a b : RegionView) (xs : List AltRef) (i : ℕ) (d : AltRef) (within : i < length xs)
    (made : Makes a b (bindings_on (segments_at rows (map place_view (drop (suc i) xs))))) where
  from_here : map place_view (drop i xs) ≡ place_view (get_or xs i d) ∷ map place_view (drop (suc i) xs)
  from_here = ap (map place_view) (drop-cons xs i d within)

  pub can_bind_down : CanMake a (bindings_on (segments_at rows (map place_view xs))) → CanMake b
      (bindings_on (segments_at rows (place_view (get_or xs i d) ∷ [])))
  can_bind_down can =
      can_bind_place rows a b (map place_view (drop (suc i) xs)) (place_view (get_or xs i d)) (map place_view (take i xs))
      (subst (λ ps. CanMake a (bindings_on (segments_at rows ps)))
      (ap (map place_view) (sym (take-append-drop i xs)) ∙ (map-append place_view (take i xs) (drop i xs)
      ∙ ap (λ ps. map place_view (take i xs) ++ ps) from_here)) can) made

  pub makes_down : (c : RegionView) → Makes b c (bindings_on (segments_at rows (place_view (get_or xs i d) ∷ [])))
      → Makes a c (bindings_on (segments_at rows (map place_view (drop i xs))))
  makes_down c more =
      subst (λ ps. Makes a c (bindings_on (segments_at rows ps))) (sym from_here)
      (makes_place rows a b (map place_view (drop (suc i) xs)) (place_view (get_or xs i d)) (map place_view (take i xs)) c made more)

pub branch_found : (xs ys : List Branch) (n : ℕ) (x : Branch) → n < length xs → x ≡ get_or xs n x → xs ≡ ys → slice_get ys n ≡ Some x
branch_found xs ys n x l e f = ap (λ zs. slice_get zs n) (sym f) ∙ slice_get_read xs (length xs) n x refl l e

pub branch_missing : (xs ys : List Branch) (n : ℕ) → length xs ≤ n → xs ≡ ys → slice_get ys n ≡ None
branch_missing xs ys n l f = ap (λ zs. slice_get zs n) (sym f) ∙ slice_get_past xs n l
