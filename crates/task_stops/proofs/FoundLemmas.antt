-- The way up from catch to catch.
use Rattle.std.proofs.Common.{◌≡◌, ℕ, zero, suc, ◌+◌, ◌-◌, ◌≤◌, ◌<◌, ◌==◌, Bool, true, false, cond, List, [], ◌∷◌, map, take, drop, get_or, length, Option, Some, None, is_some, refl, sym, ap, ◌∙◌, subst, arith}
use Rattle.std.proofs.Math.Numerals.{suc-eq-add-one}
use Rattle.std.proofs.Math.Seq.{drop-cons}
use Rattle.std.proofs.lemmas.List.{drop_all, length-drop, take_all}
use Rattle.std.specs.Prelude.{IsSome}
use Rattle.std.specs.Option.{MatchOption, option_eq}
use Rattle.std.proofs.lemmas.Bool.{eqb-true}
use Rattle.std.proofs.Math.Dec.{eqb}
use Rattle.au_term.specs.Term.{Term}
use Rattle.au_term.proofs.LogicLemmas.{number_same}
use Rattle.au_model.specs.Terms.Substitutions.{Substitution}
use Rattle.tree_model.specs.EventViews.{place_view}
use Rattle.tree_model.specs.Levels.{Place}
use Rattle.tree_model.specs.declared.places.AltRef.{AltRef}
use Rattle.tree_nodes.specs.Bodies.{Body, BodyKind, ChoiceBody, ConditionBody, CatchBody, FindallBody, QueryBody}
use Rattle.tree_nodes.specs.Rows.{Rows, row_of_node}
use Rattle.tree_closing.specs.Sleeping.{right_of}
use Rattle.task_region.specs.PlacesUp.{AreAllUp, LeadsUp, body_at, is_query_body, items_at_place}
use Rattle.task_stops.specs.Landings.{AreReadableBeside, IsReadableBeside, PassesOn, at_node, innermost_catch, here_or, is_beside_sleeper, landing, next_by_kind, next_catch, taken_on, way_beside}
use Rattle.task_stops.specs.TakenBalls.{RecoversBeside}
use Rattle.task_stops.specs.LandingBodies.{IsRecoveryBody, query_or, query_up}

-- from each place on, the way leads up
pub record IsSuffixUp (rows : Rows) (p : Place) (above : List Place) : Type 0 where
  pub up : AreAllUp rows p (p ∷ above)
  pub there : IsSome (row_of_node rows p.node)

pub suffix_up : (rows : Rows) (xs : List AltRef) (from : Option Place) (i : ℕ) (d : AltRef) → LeadsUp rows (map place_view xs) from None → i < length xs
    → IsSuffixUp rows (place_view (get_or xs i d)) (map place_view (drop (suc i) xs))
suffix_up rows [] from i d h l = absurd (omega (arith, l))
suffix_up rows (x ∷ xs) from zero d h l = record { up = (refl, h.1); there = ap is_some h.1.1.0.is }
suffix_up rows (x ∷ xs) from (suc i) d h l = suffix_up rows xs h.1.0 i d h.1.1.1 (omega (arith, l))

pub suffix_readable : (rows : Rows) (xs : List AltRef) (i : ℕ) (d : AltRef) → AreReadableBeside rows (map place_view xs) → i < length xs
    → IsReadableBeside rows (place_view (get_or xs i d)) (map place_view (drop (suc i) xs))
suffix_readable rows [] i d h l = absurd (omega (arith, l))
suffix_readable rows (x ∷ xs) zero d h l = h.0
suffix_readable rows (x ∷ xs) (suc i) d h l = suffix_readable rows xs i d h.1 (omega (arith, l))

-- the places from an index on
pub from_index : (xs : List AltRef) (i : ℕ) (d : AltRef) → i < length xs → map place_view (drop i xs) ≡ place_view (get_or xs i d) ∷ map place_view (drop (suc i) xs)
from_index xs i d l = ap (map place_view) (drop-cons xs i d l)

nothing_up : (rows : Rows) (ball : Term) (places : List Place) → landing rows ball None places ≡ []
nothing_up rows ball [] = refl
nothing_up rows ball (p ∷ places) = refl

-- where another catch is looked for, a place is passed
pub passes_other : (rows : Rows) (ball : Term) (mark : Option ℕ) (p : Place) (above : List Place) → (mark ≡ Some p.node → ⊥)
    → landing rows ball mark (p ∷ above) ≡ landing rows ball mark above
passes_other rows ball None p above h = sym (nothing_up rows ball above)
passes_other rows ball (Some n) p above h = by_test (p.node == n) refl
  where
    abbrev_here : List Place
    abbrev_here =
        cond (is_beside_sleeper rows p)
        (at_node (body_at rows p).kind (way_beside rows p above) ball (p ∷ above) (landing rows ball (innermost_catch (items_at_place rows (right_of p))) above)) []

    by_test : (b : Bool) → (p.node == n) ≡ b → cond b abbrev_here (landing rows ball (Some n) above) ≡ landing rows ball (Some n) above
    by_test true e = absurd (h (ap Some (sym (eqb-true p.node n e))))
    by_test false e = refl

abbrev found_here : Rows → Term → Place → List Place → Bool → List Place
found_here rows ball p above asleep =
    cond asleep (at_node (body_at rows p).kind (way_beside rows p above) ball (p ∷ above) (landing rows ball (innermost_catch (items_at_place rows (right_of p))) above)) []

own_mark : (rows : Rows) (ball : Term) (p : Place) (above : List Place) → landing rows ball (Some p.node) (p ∷ above) ≡ found_here rows ball p above (is_beside_sleeper rows p)
own_mark rows ball p above =
    ap (λ b. cond b (found_here rows ball p above (is_beside_sleeper rows p)) (landing rows ball (Some p.node) above)) (number_same p.node)

-- a catch that does not take the ball
pub passes_on : (rows : Rows) (ball : Term) (p : Place) (above : List Place) → PassesOn rows p above ball
    → landing rows ball (Some p.node) (p ∷ above) ≡ landing rows ball (next_catch rows p) above
passes_on rows ball p above h = own_mark rows ball p above ∙ by_sleeper (is_beside_sleeper rows p) refl
  where
    further : Option ℕ
    further = innermost_catch (items_at_place rows (right_of p))

    by_kind : is_beside_sleeper rows p ≡ true → (k : BodyKind) → (body_at rows p).kind ≡ k
        → at_node k (way_beside rows p above) ball (p ∷ above) (landing rows ball further above) ≡ landing rows ball (next_by_kind k further) above
    by_kind asleep ChoiceBody e = sym (nothing_up rows ball above)
    by_kind asleep ConditionBody e = sym (nothing_up rows ball above)
    by_kind asleep (CatchBody catcher recovery) e = ap (λ o. here_or o (p ∷ above) (landing rows ball further above)) (h catcher recovery asleep e)
    by_kind asleep (FindallBody results list) e = sym (nothing_up rows ball above)
    by_kind asleep QueryBody e = sym (nothing_up rows ball above)

    by_sleeper : (b : Bool) → is_beside_sleeper rows p ≡ b → found_here rows ball p above b ≡ landing rows ball (cond b (next_by_kind (body_at rows p).kind further) None) above
    by_sleeper true e = by_kind e (body_at rows p).kind refl
    by_sleeper false e = sym (nothing_up rows ball above)

-- one that does
pub caught_here : (rows : Rows) (ball : Term) (p : Place) (above : List Place) → is_beside_sleeper rows p ≡ true → (catcher recovery : Term)
    → (body_at rows p).kind ≡ CatchBody catcher recovery → (s : Substitution) → taken_on (way_beside rows p above) catcher ball ≡ Some s
    → landing rows ball (Some p.node) (p ∷ above) ≡ p ∷ above
caught_here rows ball p above asleep catcher recovery kind s takes =
    own_mark rows ball p above
    ∙ (ap (found_here rows ball p above) asleep
    ∙ (ap (λ k. at_node k (way_beside rows p above) ball (p ∷ above) (landing rows ball (innermost_catch (items_at_place rows (right_of p))) above)) kind
    ∙ ap (λ o. here_or o (p ∷ above) (landing rows ball (innermost_catch (items_at_place rows (right_of p))) above)) takes))

-- what a slice to the end holds
pub above_is : (xs : List AltRef) (i : ℕ) → map place_view (take (length xs - (i + 1)) (drop (i + 1) xs)) ≡ map place_view (drop (suc i) xs)
above_is xs i =
    ap (map place_view)
    (take_all (length xs - (i + 1)) (drop (i + 1) xs) (omega (arith, length-drop (i + 1) xs)) ∙ ap (λ k. drop k xs) (sym (suc-eq-add-one i)))

-- what holds where nothing is made
pub none_made : {X : Type 0} (P : Type 0) (Q : X → Type 0) (o : Option X) → o ≡ None → MatchOption o P Q → P
none_made P Q None e h = h
none_made P Q (Some x) e h = absurd (cc e)

pub up_above : (rows : Rows) (xs : List AltRef) (from : Option Place) (i : ℕ) (d : AltRef) → LeadsUp rows (map place_view xs) from None → i < length xs
    → AreAllUp rows (place_view (get_or xs i d)) (place_view (get_or xs i d) ∷ map place_view (take (length xs - (i + 1)) (drop (i + 1) xs)))
up_above rows xs from i d h l =
    subst (λ above. AreAllUp rows (place_view (get_or xs i d)) (place_view (get_or xs i d) ∷ above)) (sym (above_is xs i)) (suffix_up rows xs from i d h l).up

pub readable_above : (rows : Rows) (xs : List AltRef) (i : ℕ) (d : AltRef) → AreReadableBeside rows (map place_view xs) → i < length xs
    → IsReadableBeside rows (place_view (get_or xs i d)) (map place_view (take (length xs - (i + 1)) (drop (i + 1) xs)))
readable_above rows xs i d h l = subst (IsReadableBeside rows (place_view (get_or xs i d))) (sym (above_is xs i)) (suffix_readable rows xs i d h l)

marked : (mark : Option ℕ) (n : ℕ) → option_eq eqb mark (Some n) ≡ true → mark ≡ Some n
marked None n e = absurd (cc e)
marked (Some m) n e = ap Some (eqb-true m n e)

not_marked : (mark : Option ℕ) (n : ℕ) → option_eq eqb mark (Some n) ≡ false → mark ≡ Some n → ⊥
not_marked mark n e same = cc (sym (number_same n) ∙ (sym (ap (λ m. option_eq eqb m (Some n)) same) ∙ e))

module _ (rows : Rows) (ball : Term) (first mark : Option ℕ) (xs : List AltRef) (i : ℕ) (d : AltRef) (within : i < length xs)
    (before : landing rows ball first (map place_view xs) ≡ landing rows ball mark (map place_view (drop i xs))) where
  abbrev here : Place
  here = place_view (get_or xs i d)

  abbrev above : List Place
  above = map place_view (drop (suc i) xs)

  from_here : landing rows ball first (map place_view xs) ≡ landing rows ball mark (here ∷ above)
  from_here = before ∙ ap (landing rows ball mark) (from_index xs i d within)

  goes_on : (next : Option ℕ) → landing rows ball mark (here ∷ above) ≡ landing rows ball next above
      → landing rows ball first (map place_view xs) ≡ landing rows ball next (map place_view (drop (i + 1) xs))
  goes_on next e = from_here ∙ (e ∙ ap (λ k. landing rows ball next (map place_view (drop k xs))) (suc-eq-add-one i))

  -- a place is passed where another catch is looked for
  pub goes_past : option_eq eqb mark (Some (get_or xs i d).node) ≡ false → landing rows ball first (map place_view xs) ≡ landing rows ball mark (map place_view (drop (i + 1) xs))
  goes_past e = goes_on mark (passes_other rows ball mark here above (not_marked mark here.node e))

  module _ (own : option_eq eqb mark (Some (get_or xs i d).node) ≡ true) where
    at_own : landing rows ball mark (here ∷ above) ≡ landing rows ball (Some here.node) (here ∷ above)
    at_own = ap (λ m. landing rows ball m (here ∷ above)) (marked mark here.node own)

    -- and where its catch does not take the ball
    pub goes_further : PassesOn rows here (map place_view (take (length xs - (i + 1)) (drop (i + 1) xs))) ball
        → landing rows ball first (map place_view xs) ≡ landing rows ball (next_catch rows here) (map place_view (drop (i + 1) xs))
    goes_further h = goes_on (next_catch rows here) (at_own ∙ passes_on rows ball here above (subst (λ up. PassesOn rows here up ball) (above_is xs i) h))

    -- one that takes it is found
    pub is_caught : (body : Body) → RecoversBeside rows here (map place_view (take (length xs - (i + 1)) (drop (i + 1) xs))) ball body
        → (landing rows ball first (map place_view xs) ≡ here ∷ above) × IsRecoveryBody rows here above ball body
    is_caught body h =
        let r = subst (λ up. RecoversBeside rows here up ball body) (above_is xs i) h in
        (from_here ∙ (at_own ∙ caught_here rows ball here above r.0 r.1.catcher r.1.recovery r.1.kind r.1.unifier r.1.takes), r.1)

pub none_caught : (rows : Rows) (ball : Term) (first mark : Option ℕ) (xs : List AltRef) (i : ℕ) → landing rows ball first (map place_view xs) ≡ landing rows ball mark (map place_view (drop i xs))
    → length xs ≤ i → landing rows ball first (map place_view xs) ≡ []
none_caught rows ball first mark xs i before l = before ∙ (ap (λ ys. landing rows ball mark (map place_view ys)) (drop_all i xs l) ∙ nothing_left mark)
  where
    nothing_left : (m : Option ℕ) → landing rows ball m [] ≡ []
    nothing_left m = refl

-- the innermost query is at a place, or further up
query_here : (k : BodyKind) (n further : ℕ) → is_query_body k ≡ true → query_or k n further ≡ n
query_here ChoiceBody n further e = absurd (cc e)
query_here ConditionBody n further e = absurd (cc e)
query_here (CatchBody catcher recovery) n further e = absurd (cc e)
query_here (FindallBody results list) n further e = absurd (cc e)
query_here QueryBody n further e = refl

query_further : (k : BodyKind) (n further : ℕ) → is_query_body k ≡ false → query_or k n further ≡ further
query_further ChoiceBody n further e = refl
query_further ConditionBody n further e = refl
query_further (CatchBody catcher recovery) n further e = refl
query_further (FindallBody results list) n further e = refl
query_further QueryBody n further e = absurd (cc e)

module _ (rows : Rows) (xs : List AltRef) (i : ℕ) (before : query_up rows (map place_view (drop i xs)) ≡ query_up rows (map place_view xs)) where
  module _ (d : AltRef) (within : i < length xs) where
    pub query_at : is_query_body (body_at rows (place_view (get_or xs i d))).kind ≡ true → (get_or xs i d).node ≡ query_up rows (map place_view xs)
    query_at e = sym (query_here _ _ _ e) ∙ (sym (ap (query_up rows) (from_index xs i d within)) ∙ before)

    pub query_past : is_query_body (body_at rows (place_view (get_or xs i d))).kind ≡ false → query_up rows (map place_view (drop (i + 1) xs)) ≡ query_up rows (map place_view xs)
    query_past e =
        subst (λ k. query_up rows (map place_view (drop k xs)) ≡ query_up rows (map place_view xs)) (suc-eq-add-one i)
        (sym (query_further _ _ _ e) ∙ (sym (ap (query_up rows) (from_index xs i d within)) ∙ before))

  pub no_query_up : length xs ≤ i → 0 ≡ query_up rows (map place_view xs)
  no_query_up l = sym (ap (λ ys. query_up rows (map place_view ys)) (drop_all i xs l)) ∙ before
