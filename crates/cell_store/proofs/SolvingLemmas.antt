-- Equations solved one after another, until none is left.
use Rattle.std.proofs.Common.{◌≡◌, ℕ, ◌<◌, List, [], ◌∷◌, ◌++◌, Bool, true, false, Option, None, Result, Ok, Err, IfOk, refl, subst}
use Rattle.au_term.specs.Term.{Term}
use Rattle.au_model.specs.Terms.Unifier.{Equations, Clash, rule, unifier}
use Rattle.binding_array.specs.declared.cell.BindingCell.{BindingCell}
use Rattle.cell_store.specs.Arguments.{argument_meaning}
use Rattle.cell_store.specs.FreshVariables.{AreYoung, IsOlder, AreOlder, StaysOlder}
use Rattle.cell_store.specs.StoreView.{StoreView, substitution, meaning, text_in, with_substitution}
use Rattle.cell_store.specs.UnificationSteps.{AllEquations, equations_left, FollowsRule, KeepsRestEquations, AreUnified, IsUnified, AreSolved, IsSolved}
use Rattle.cell_store.specs.declared.arguments.Equations.{Equations as ArgumentEquations}
use Rattle.cell_store.proofs.RuleLemmas.{other_equations}
use Rattle.cell_store.proofs.UnificationLemmas.{Unifying, left_work, first_is, first_follows, first_clashes, start_follows, begun, ended, none_left, none_found}
use Rattle.cell_store.proofs.FreshLemmas.{older_follows, young_stays}

abbrev pub whole : BindingCell → BindingCell → StoreView → Equations
whole a b first = (meaning first a, meaning first b) ∷ []

-- what is bound and what is left give the unifier of equations, and the older sides are on the left
pub record IsSolving (eqs : Equations) (first now : StoreView) (fresh : Option ℕ) (es : List ArgumentEquations) : Type 0 where
  pub unifying : Unifying eqs (substitution first) (substitution now) (equations_left now es)
  pub there : AllEquations (text_in now) now.now.next es
  pub older : AreOlder fresh (equations_left now es)
  pub young : AreYoung now fresh
  pub others : now ≡ with_substitution (substitution now) first

abbrev pub solving_work : Equations → StoreView → List ArgumentEquations → ℕ
solving_work eqs now es = left_work eqs (equations_left now es)

-- the rule for two values
pub starts : (a b : BindingCell) (first new : StoreView) (from to : Option ℕ) (opened : List ArgumentEquations) → IsOlder from (meaning first a) → AreYoung first from
    → FollowsRule first new (meaning first a) (meaning first b) opened → new ≡ with_substitution (substitution new) first → StaysOlder first new from to
    → IsSolving (whole a b first) first new to (opened ++ [])
starts a b first new from to opened o y f k s =
    let h = start_follows first new (meaning first a) (meaning first b) opened f in
    record { unifying = h.unifying; there = h.there; older = older_follows from to first new (meaning first a) (meaning first b) [] opened (o, tt) k f s; young = young_stays first new from to k s.still y; others = h.others }

-- and equations of arguments to begin with
pub begins : (first : StoreView) (fresh : Option ℕ) (es : List ArgumentEquations) → AllEquations (text_in first) first.now.next es
    → AreOlder fresh (equations_left first es) → AreYoung first fresh → IsSolving (equations_left first es) first first fresh es
begins first fresh es there o y = record {
  unifying = begun (equations_left first es) (substitution first) (equations_left first es) refl;
  there = there;
  older = o;
  young = y;
  others = refl;
}

module _ (eqs : Equations) (first st : StoreView) (from : Option ℕ) (e : ArgumentEquations) (waiting : List ArgumentEquations) (h : IsSolving eqs first st from (e ∷ waiting)) where
  abbrev left : Term
  left = argument_meaning st e.left.base e.left.at

  abbrev right : Term
  right = argument_meaning st e.right.base e.right.at

  -- the first side is older
  pub first_older : IsOlder from left
  first_older =
      let r = other_equations e waiting h.there.0.left.0 in
      (subst (AreOlder from) (first_is eqs first st waiting r.others e h.unifying h.there r.kept) h.older).0

  pub clashes : rule left right ≡ Clash → unifier eqs ≡ None
  clashes k = let r = other_equations e waiting h.there.0.left.0 in first_clashes eqs first st waiting r.others e h.unifying h.there r.kept k

  pub goes_on : (others : List ArgumentEquations) → KeepsRestEquations e waiting others → (new : StoreView) (to : Option ℕ) (opened : List ArgumentEquations) → FollowsRule st new left right opened → new ≡ with_substitution (substitution new) st → StaysOlder st new from to
      → IsSolving eqs first new to (opened ++ others) × (solving_work eqs new (opened ++ others) < solving_work eqs st (e ∷ waiting))
  goes_on others kept new to opened f k s =
      let g = first_follows eqs first st waiting others e h.unifying h.there kept h.others new opened f in
      let older = subst (AreOlder from) (first_is eqs first st waiting others e h.unifying h.there kept) h.older in
      (record { unifying = g.unifying; there = g.there; older = older_follows from to st new left right others opened older k f s; young = young_stays st new from to k s.still h.young; others = g.others }, g.less)

-- none is left
pub solved : (a b : BindingCell) (first now : StoreView) (fresh : Option ℕ) → IsSolving (whole a b first) first now fresh [] → AreUnified a b first now
solved a b first now fresh h =
    let k = none_left (whole a b first) first now [] h.unifying refl h.others in
    record { further = k.further; unified = k.unified; binds = k.binds }

pub all_solved : (es : List ArgumentEquations) (first now : StoreView) (fresh : Option ℕ) → IsSolving (equations_left first es) first now fresh [] → AreSolved es first now
all_solved es first now fresh h =
    let k = none_left (equations_left first es) first now [] h.unifying refl h.others in
    record { further = k.further; unified = k.unified; binds = k.binds }

-- those that are left are solved by themselves
pub handed_over : (a b : BindingCell) (first now new : StoreView) (fresh : Option ℕ) (es : List ArgumentEquations) (answer : Bool)
    → IsSolving (whole a b first) first now fresh es → IsSolved es now new answer → IsUnified a b first new answer
handed_over a b first now new fresh es true h k =
    let m = ended (whole a b first) first now new (equations_left now es) k.further h.unifying h.others k.unified k.binds in
    record { further = m.further; unified = m.unified; binds = m.binds }
handed_over a b first now new fresh es false h k =
    none_found (whole a b first) (substitution first) (substitution now) (equations_left now es) h.unifying k

pub answer_handed_over : {E : Type 0} (a b : BindingCell) (first now new : StoreView) (fresh : Option ℕ) (es : List ArgumentEquations) (r : Result Bool E)
    → IsSolving (whole a b first) first now fresh es → IfOk r (IsSolved es now new) → IfOk r (IsUnified a b first new)
answer_handed_over a b first now new fresh es (Ok answer) h k = handed_over a b first now new fresh es answer h k
answer_handed_over a b first now new fresh es (Err e) h k = k

-- and so where equations were there to begin with
solved_over : (eqs : List ArgumentEquations) (first now new : StoreView) (fresh : Option ℕ) (es : List ArgumentEquations) (answer : Bool) → IsSolving (equations_left first eqs) first now fresh es → IsSolved es now new answer → IsSolved eqs first new answer
solved_over eqs first now new fresh es true h k =
    let m = ended (equations_left first eqs) first now new (equations_left now es) k.further h.unifying h.others k.unified k.binds in
    record { further = m.further; unified = m.unified; binds = m.binds }
solved_over eqs first now new fresh es false h k = none_found (equations_left first eqs) (substitution first) (substitution now) (equations_left now es) h.unifying k

pub answer_solved_over : {E : Type 0} (eqs : List ArgumentEquations) (first now new : StoreView) (fresh : Option ℕ) (es : List ArgumentEquations) (r : Result Bool E) → IsSolving (equations_left first eqs) first now fresh es → IfOk r (IsSolved es now new)
    → IfOk r (IsSolved eqs first new)
answer_solved_over eqs first now new fresh es (Ok answer) h k = solved_over eqs first now new fresh es answer h k
answer_solved_over eqs first now new fresh es (Err e) h k = k
