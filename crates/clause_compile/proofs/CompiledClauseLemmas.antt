-- Bodies that are kept, and goals put before others.
use Rattle.std.proofs.Common.{◌≡◌, ℕ, zero, suc, ◌+◌, ◌<◌, ◌≤◌, ◌^◌, Bool, true, false, cond, List, [], ◌∷◌, ◌++◌, map, length, drop, get_or, Option, Some, None, refl, sym, ap, ap₂, ◌∙◌, subst, arith}
use Rattle.std.proofs.lemmas.List.{drop_more}
use Rattle.std.specs.Option.{option_map}
use Rattle.au_term.specs.Term.{Term, VarTerm, IntTerm, AtomTerm, Compound, end, more, var_bound}
use Rattle.au_term.specs.PrefixOrder.{cells_of, top_of, subterm, AreValidCells}
use Rattle.au_term.specs.Shifted.{shifted, IsShiftablePlace}
use Rattle.au_term.proofs.ShiftLemmas.{place_of, shifted-zero, AreSound-bound}
use Rattle.au_term.proofs.VariableBoundLemmas.{cells_bound-cells_of}
use Rattle.au_term.proofs.SubtermLemmas.{some_cell, subterm-zero}
use Rattle.au_model.specs.Terms.Each.{Each}
use Rattle.std.specs.Prelude.{codes, ◌||◌}
use Rattle.au_model.specs.Terms.Forms.{binary, same_name}
use Rattle.clause_compile.specs.BodyCells.{opens_plain_goal}
use Rattle.run_model.specs.Programs.Bodies.{body_of, goals_of, called_goals, is_junction, junction}
use Rattle.run_model.specs.Programs.Clauses.{Clause as ClauseTerms}
use Rattle.clause_compile.specs.declared.item.Scope.{Scope}
use Rattle.clause_compile.specs.declared.item.Item.{Item}
use Rattle.clause_compile.specs.declared.item.Item.TheVariants.{Goal}
use Rattle.clause_compile.specs.GoalPlaces.{subterms_at, ArePlaces, AreGoalsAt}
use Rattle.clause_compile.specs.CompiledClauses.{goal_items}
use Rattle.clause_compile.proofs.NormalBodyLemmas.{junction_body}
use Rattle.au_term.proofs.LogicLemmas.{not-true}

-- a body that was kept is kept as it is
IsOwnBody : Option Term → Type 0
IsOwnBody None = Unit {0}
IsOwnBody (Some t) = body_of t ≡ Some t

junction_stays : (f : List ℕ) (a b : Option Term) → is_junction f ≡ true → IsOwnBody a → IsOwnBody b → IsOwnBody (junction f a b)
unfolding IsOwnBody
junction_stays f (Some a) (Some b) h k l = junction_body f a b h ∙ ap₂ (junction f) k l
junction_stays f (Some a) None h k l = tt
junction_stays f None b h k l = tt

kept_stays : (t : Term) → IsOwnBody (body_of t)
unfolding IsOwnBody
kept_stays (VarTerm n) = refl
kept_stays (IntTerm z) = tt
kept_stays (AtomTerm a) = refl
kept_stays (Compound f end) = refl
kept_stays (Compound f (more a end)) = refl
kept_stays (Compound f (more a (more b end))) = go (is_junction f) refl (kept_stays a) (kept_stays b)
  where
    go : (k : Bool) → is_junction f ≡ k → IsOwnBody (body_of a) → IsOwnBody (body_of b) → IsOwnBody (cond k (junction f (body_of a) (body_of b)) (Some (binary f a b)))
    go true h l r = junction_stays f (body_of a) (body_of b) h l r
    go false h l r = ap (λ k. cond k (junction f (body_of a) (body_of b)) (Some (binary f a b))) h
kept_stays (Compound f (more a (more b (more c ts)))) = refl

pub own_body_of : (t u : Term) → Some u ≡ body_of t → body_of u ≡ Some u
unfolding IsOwnBody
own_body_of t u e = subst IsOwnBody (sym e) (kept_stays t)

-- the whole of a term is a place of it
pub whole_place : (t : Term) (base b : ℕ) → base + b < 2 ^ 64 → var_bound t ≤ b → IsShiftablePlace t 0 base
whole_place t base b h l = place_of t 0 base (some_cell t) (omega arith)

pub each_place : (t : Term) (base : ℕ) (places : List ℕ) → base + var_bound t < 2 ^ 64 → Each (λ at. at < length (cells_of t)) places → ArePlaces t base places
each_place t base [] h k = tt
each_place t base (at ∷ places) h k = (place_of t at base k.0 h, each_place t base places h k.1)

pub place_at : (t : Term) (base : ℕ) (places : List ℕ) (i d : ℕ) → ArePlaces t base places → i < length places → IsShiftablePlace t (get_or places i d) base
place_at t base [] i d h lt = absurd (omega arith)
place_at t base (at ∷ places) zero d h lt = h.0
place_at t base (at ∷ places) (suc i) d h lt = place_at t base places i d h.1 (omega arith)

-- the goals from a place of the list on, before the rest
abbrev pub goals_from : Term → ℕ → List ℕ → Scope → List Item → ℕ → List Item
goals_from t base places cut rest i = goal_items cut (map (shifted base) (subterms_at t (drop i places))) ++ rest

pub one_more_goal : (t u : Term) (base : ℕ) (places : List ℕ) (cut : Scope) (rest goals : List Item) (i at : ℕ) → i < length places → at ≡ get_or places i at
    → u ≡ shifted base (subterm at t) → goals ≡ goals_from t base places cut rest (i + 1) → Goal u cut ∷ goals ≡ goals_from t base places cut rest i
one_more_goal t u base places cut rest goals i at lt is e h =
    ap₂ (λ v gs. Goal v cut ∷ gs) e h ∙ ap (λ ps. goal_items cut (map (shifted base) (subterms_at t ps)) ++ rest) (sym (drop_more places i at lt ∙ ap (λ a. a ∷ drop (i + 1) places) (sym is)))

pub head_is : (c d : ClauseTerms) → c ≡ d → c.head ≡ d.head
head_is c d e = ap (λ k. let h : Term = k.head in h) e

pub body_is : (c d : ClauseTerms) → c ≡ d → c.body ≡ d.body
body_is c d e = ap (λ k. let b : Term = k.body in b) e

-- a shared part of a clause, shifted
pub part_place : (t u : Term) (base b : ℕ) → t ≡ u → base + b < 2 ^ 64 → var_bound u ≤ b → IsShiftablePlace t 0 base
part_place t u base b e h l = subst (λ v. IsShiftablePlace v 0 base) (sym e) (whole_place u base b h l)

pub part_shifted : (s t u : Term) (base : ℕ) → s ≡ shifted base (subterm 0 t) → t ≡ u → s ≡ shifted base u
part_shifted s t u base h e = h ∙ ap (shifted base) (subterm-zero t ∙ e)

pub part_places : (t u : Term) (base b : ℕ) (places : List ℕ) → t ≡ u → base + b < 2 ^ 64 → var_bound u ≤ b → Each (λ at. at < length (cells_of t)) places → ArePlaces t base places
part_places t u base b places e h l k = each_place t base places (omega (arith, ap var_bound e)) k

pub called_places : (t u : Term) (places : List ℕ) (gs : List Term) → u ≡ t → AreValidCells (cells_of t) → AreGoalsAt t places gs → ArePlaces u 0 places
called_places t u places gs e s g =
    subst (λ v. ArePlaces v 0 places) (sym e) (each_place t 0 places (omega (arith, AreSound-bound (cells_of t) s, cells_bound-cells_of t)) g.within)

shifted-none : (gs : List Term) → map (shifted 0) gs ≡ gs
shifted-none [] = refl
shifted-none (g ∷ gs) = ap₂ (λ t ts. t ∷ ts) (shifted-zero g) (shifted-none gs)

pub called_are : (b kept sk : Term) (places : List ℕ) (cut : Scope) (rest goals : List Item) → Some kept ≡ body_of b → sk ≡ kept → AreGoalsAt kept places (goals_of kept)
    → goals ≡ goal_items cut (map (shifted 0) (subterms_at sk places)) ++ rest → option_map (λ gs. goal_items cut gs ++ rest) (called_goals b) ≡ Some goals
called_are b kept sk places cut rest goals k e g h =
    ap (λ o. option_map (λ gs. goal_items cut gs ++ rest) (option_map goals_of o)) (sym k)
    ∙ ap Some (ap (λ gs. goal_items cut gs ++ rest) (sym g.are ∙ (sym (shifted-none (subterms_at kept places)) ∙ ap (λ t. map (shifted 0) (subterms_at t places)) (sym e))) ∙ sym h)

pub not_called : (b : Term) → None ≡ body_of b → called_goals b ≡ None
not_called b e = ap (option_map goals_of) (sym e)

or-left : (a b : Bool) → a || b ≡ false → a ≡ false
or-left true b h = absurd cc
or-left false b h = refl

plain_binary : (f : List ℕ) (a b : Term) → is_junction f ≡ false → called_goals (binary f a b) ≡ Some (binary f a b ∷ [])
plain_binary f a b h =
    ap (λ k. option_map goals_of (cond k (junction f (body_of a) (body_of b)) (Some (binary f a b)))) h
    ∙ ap (λ k. Some (cond k (goals_of a ++ goals_of b) (binary f a b ∷ []))) (or-left (same_name f (codes ",")) _ h)

pub plain_called : (b : Term) → opens_plain_goal (top_of b) ≡ true → called_goals b ≡ Some (b ∷ [])
plain_called (VarTerm n) h = absurd cc
plain_called (IntTerm z) h = absurd cc
plain_called (AtomTerm a) h = refl
plain_called (Compound f end) h = refl
plain_called (Compound f (more a end)) h = refl
plain_called (Compound f (more a (more b end))) h = plain_binary f a b (not-true (is_junction f) h)
plain_called (Compound f (more a (more b (more c ts)))) h = refl
