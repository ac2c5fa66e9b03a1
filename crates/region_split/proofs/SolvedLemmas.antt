-- Equations that are solved one after another.
use Rattle.std.proofs.Common.{◌≡◌, ℕ, ◌+◌, ◌<◌, get_or, List, [], ◌∷◌, ◌++◌, length, map, take, drop, Option, Some, None, refl, sym, ap, ap₂, ◌∙◌, subst, arith}
use Rattle.std.specs.Option.{option_map}
use Rattle.std.proofs.lemmas.List.{map-append, take-append-drop}
use Rattle.au_model.specs.Terms.Each.{Each}
use Rattle.cell_store.proofs.UndoingLemmas.{front_at}
use Rattle.au_term.specs.Term.{Term}
use Rattle.au_model.specs.Terms.EquationsInTurn.{after as both, further_unified}
use Rattle.au_model.specs.Terms.Substitutions.{Substitution, resolve, value_of}
use Rattle.au_model.specs.Terms.Unifier.{Equations, unifier}
use Rattle.au_model.proofs.EquationsInTurnLemmas.{front_first, resolve-after, resolve-nothing}
use Rattle.au_model.proofs.UnifierLemmas.{unifier_goes}
use Rattle.clause_compile.specs.Places.{Keeps}
use Rattle.clause_compile.proofs.CodeLemmas.{keeps_same, keeps_twice}
use Rattle.binding_array.specs.declared.cell.BindingCell.{BindingCell}
use Rattle.cell_store.specs.StoreView.{Moment, StoreView, text_at, AddsText, IsValueIn, meaning, text_in, value_term}
use Rattle.cell_store.specs.UnificationSteps.{AreUnified, OnlyBinds}
use Rattle.region_split.specs.Solutions.{side_term, equation_meant, IsSideAt, IsEquationAt}
use Rattle.region_split.specs.SolutionTrials.{AreAllSolved}
use Rattle.region_split.specs.Regions.{RegionView}
use Rattle.region_split.specs.StackOperations.{StaysStanding}
use Rattle.region_split.specs.declared.solution.Equation.{Equation}
use Rattle.region_split.specs.declared.solution.EquationSide.{EquationSide}
use Rattle.region_split.specs.declared.solution.EquationSide.TheVariants.{Value, Copied}
use Rattle.region_split.proofs.StoreLemmas.{stays_same}
use Rattle.region_split.proofs.TrialLemmas.{resolved_twice}

-- a store that went on, and went on again
pub stays_twice : (a b c : RegionView) → StaysStanding a b → StaysStanding b c → StaysStanding a c
stays_twice a b c p q = record {
  stands = λ named. q.stands named ∙ p.stands named;
  position = λ cut x i. q.position cut x (p.position cut x i);
  marks = q.marks ∙ p.marks;
  floor = q.floor ∙ p.floor;
  others = q.others ∙ ap (λ (x : RegionView). record x { store = c.store }) p.others;
}

-- a side where text was added
pub side_added : (st now : StoreView) (side : EquationSide) → AddsText st now → IsSideAt (text_in st) st.now.next st.now.next side → IsSideAt (text_in now) now.now.next now.now.next side
side_added st now (Value value) a v = (a.values value v).0
side_added st now (Copied term) a v = let n = a.next in omega (arith, n, v)

-- nothing is solved
pub none_solved : (r : RegionView) → AreAllSolved r r []
none_solved r = record {
  further = [];
  unified = unifier_goes.none_left;
  bound = λ n. sym (resolve-nothing (value_of r.store.now.bound n));
  next = refl;
  keeps = keeps_same (text_in r.store);
  values = λ value there. (there, refl);
  stays = stays_same r;
}

module _ (r0 r : RegionView) (done : Equations) (solved : AreAllSolved r0 r done) where
  pub side_still : (side : EquationSide) → IsSideAt (text_in r0.store) r0.store.now.next r0.store.now.next side → IsSideAt (text_in r.store) r.store.now.next r.store.now.next side × (side_term (text_in r.store) side ≡ side_term (text_in r0.store) side)
  side_still (Value value) v = solved.values value v
  side_still (Copied term) v = ((let n = solved.next in omega (arith, n, v)), refl)

  module _ (e : Equation) (there : IsEquationAt (text_in r0.store) r0.store.now.next r0.store.now.next e) (r1 r2 r3 : RegionView) (a b : BindingCell) (first : AddsText r.store r1.store) (first_stays : StaysStanding r r1) (second : AddsText r1.store r2.store) (second_stays : StaysStanding r1 r2)
      (a_there : IsValueIn r1.store a) (a_is : value_term r1.store a ≡ side_term (text_in r.store) e.left) (b_is : value_term r2.store b ≡ side_term (text_in r1.store) e.right) where
    abbrev bound0 : Substitution
    bound0 = r0.store.now.bound

    abbrev u : Substitution
    u = solved.further

    abbrev own : Term × Term
    own = equation_meant (text_in r0.store) bound0 e

    bound_now : r2.store.now.bound ≡ r.store.now.bound
    bound_now = second.bound ∙ first.bound

    left_is : meaning r2.store a ≡ resolve u own.0
    left_is =
        ap (resolve r2.store.now.bound) ((second.values a a_there).1 ∙ (a_is ∙ (side_still e.left there.0).1))
        ∙ (ap (λ s. resolve s (side_term (text_in r0.store) e.left)) bound_now ∙ resolved_twice bound0 u r.store.now.bound solved.bound (side_term (text_in r0.store) e.left))

    right_still : side_term (text_in r1.store) e.right ≡ side_term (text_in r.store) e.right
    right_still = side_same e.right (side_still e.right there.1).0
      where
        side_same : (side : EquationSide) → IsSideAt (text_in r.store) r.store.now.next r.store.now.next side → side_term (text_in r1.store) side ≡ side_term (text_in r.store) side
        side_same (Value value) v = (first.values value v).1
        side_same (Copied term) v = refl

    right_is : meaning r2.store b ≡ resolve u own.1
    right_is =
        ap (resolve r2.store.now.bound) (b_is ∙ (right_still ∙ (side_still e.right there.1).1))
        ∙ (ap (λ s. resolve s (side_term (text_in r0.store) e.right)) bound_now ∙ resolved_twice bound0 u r.store.now.bound solved.bound (side_term (text_in r0.store) e.right))

    in_turn : (o : Option Substitution) → unifier ((meaning r2.store a, meaning r2.store b) ∷ []) ≡ o → unifier (done ++ own ∷ []) ≡ option_map (both u) o
    in_turn o e =
        front_first done (own ∷ [])
        ∙ (ap (λ f. further_unified f (own ∷ [])) solved.unified
        ∙ ap (option_map (both u)) (ap₂ (λ t v. unifier ((t, v) ∷ [])) (sym left_is) (sym right_is) ∙ e))

    abbrev all_stays : StaysStanding r2 r3 → StaysStanding r0 r3
    all_stays third = stays_twice r0 r r3 solved.stays (stays_twice r r1 r3 first_stays (stays_twice r1 r2 r3 second_stays third))

    module _ (binds : OnlyBinds r2.store r3.store) (third : StaysStanding r2 r3) where
      pub one_more : AreUnified a b r2.store r3.store → AreAllSolved r0 r3 (done ++ own ∷ [])
      one_more unified = record {
        further = both u unified.further;
        unified = in_turn (Some unified.further) unified.unified;
        bound = λ n.
            unified.binds.bound n
            ∙ (ap (λ s. resolve unified.further (value_of s n)) bound_now ∙ (ap (resolve unified.further) (solved.bound n) ∙ sym (resolve-after u unified.further (value_of bound0 n))));
        next = ap (λ (x : StoreView). x.now.next) binds.others ∙ (second.next ∙ (first.next ∙ solved.next));
        keeps = subst (λ (x : StoreView). Keeps (text_in r0.store) (text_in x)) (sym binds.others) (keeps_twice (text_in r0.store) (text_in r.store) (text_in r2.store) solved.keeps (keeps_twice (text_in r.store) (text_in r1.store) (text_in r2.store) first.keeps second.keeps));
        values = λ value v.
            let zeroth = solved.values value v in
            let one = first.values value zeroth.0 in
            let two = second.values value one.0 in
            (subst (λ (x : StoreView). IsValueIn x value) (sym binds.others) two.0, ap (λ (x : StoreView). value_term x value) binds.others ∙ (two.1 ∙ (one.1 ∙ zeroth.1)));
        stays = all_stays third;
      }

      pub no_more : (rest : Equations) → unifier ((meaning r2.store a, meaning r2.store b) ∷ []) ≡ None → (unifier ((done ++ own ∷ []) ++ rest) ≡ None) × StaysStanding r0 r3
      no_more rest none = (front_first (done ++ own ∷ []) rest ∙ ap (λ f. further_unified f rest) (in_turn None none), all_stays third)

-- no text was added
pub nothing_added : (st : StoreView) → AddsText st st
nothing_added st = record { keeps = keeps_same (text_in st); values = λ value there. (there, refl); program = refl; bound = refl; next = refl; floor = refl; marks = refl; at_marks = all_kept st.marks }
  where
    all_kept : (ms : List Moment) → Each (λ m. Keeps (text_at st m) (text_at st m)) ms
    all_kept [] = tt
    all_kept (m ∷ ms) = (keeps_same (text_at st m), all_kept ms)

-- text that was added twice
pub adds_twice : (a b c : StoreView) → AddsText a b → AddsText b c → AddsText a c
adds_twice a b c p q = record {
  keeps = keeps_twice (text_in a) (text_in b) (text_in c) p.keeps q.keeps;
  values = λ value there. (let one = p.values value there in let two = q.values value one.0 in (two.0, two.1 ∙ one.1));
  program = q.program ∙ p.program;
  bound = q.bound ∙ p.bound;
  next = q.next ∙ p.next;
  marks = q.marks ∙ p.marks;
  floor = q.floor ∙ p.floor;
  at_marks = all_twice a.marks p.at_marks (subst (Each (λ m. Keeps (text_at b m) (text_at c m))) p.marks q.at_marks);
}
  where
    all_twice : (ms : List Moment) → Each (λ m. Keeps (text_at a m) (text_at b m)) ms → Each (λ m. Keeps (text_at b m) (text_at c m)) ms → Each (λ m. Keeps (text_at a m) (text_at c m)) ms
    all_twice [] one two = tt
    all_twice (m ∷ ms) one two = (keeps_twice (text_at a m) (text_at b m) (text_at c m) one.0 two.0, all_twice ms one.1 two.1)

-- equations that were read one after another
pub front_equations : (f : Equation → Term × Term) (es : List Equation) (i : ℕ) (e : Equation) → i < length es → e ≡ get_or es i e → map f (take (i + 1) es) ≡ map f (take i es) ++ f e ∷ []
front_equations f es i e lt is = ap (map f) (front_at es i e lt is) ∙ map-append f (take i es) (e ∷ [])

pub all_equations : (f : Equation → Term × Term) (es : List Equation) (i : ℕ) (e : Equation) → i < length es → e ≡ get_or es i e → map f es ≡ (map f (take i es) ++ f e ∷ []) ++ map f (drop (i + 1) es)
all_equations f es i e lt is = ap (map f) (sym (take-append-drop (i + 1) es)) ∙ (map-append f (take (i + 1) es) (drop (i + 1) es) ∙ ap (λ ps. ps ++ map f (drop (i + 1) es)) (front_equations f es i e lt is))
