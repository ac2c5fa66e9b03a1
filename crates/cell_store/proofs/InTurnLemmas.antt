-- Equations of arguments that are solved one after another, each to its end.
use Rattle.std.proofs.Common.{◌≡◌, ℕ, List, [], ◌∷◌, ◌++◌, Bool, true, false, Option, Some, None, Result, Ok, Err, IfOk, refl, sym, ap, ap₂, ◌∙◌, subst}
use Rattle.std.specs.Option.{option_map}
use Rattle.au_term.specs.Term.{Term}
use Rattle.au_model.specs.Terms.Substitutions.{Substitution, resolve, value_of}
use Rattle.au_model.specs.Terms.Unifier.{Equations, unifier}
use Rattle.au_model.specs.Terms.EquationsInTurn.{after, resolved_equations, further_unified}
use Rattle.au_model.proofs.ApplyLemmas.{apply-same, apply-apply}
use Rattle.au_model.proofs.EquationsInTurnLemmas.{resolve-nothing, resolve-after, front_first}
use Rattle.au_model.proofs.UnifierLemmas.{unifier_goes}
use Rattle.cell_store.specs.Arguments.{argument_meaning}
use Rattle.cell_store.specs.FreshVariables.{AreYoung, AreOlder, StaysOlder}
use Rattle.cell_store.specs.StoreView.{StoreView, substitution, text_in, with_substitution, IsComposition, BindsFurther}
use Rattle.cell_store.specs.UnificationSteps.{AllEquations, equations_left, pending_equations, HasRestEquations, KeepsRestEquations, AreSolved, IsSolved, IsFirstSolved, SolvesFirst, first_equation, FollowsRule}
use Rattle.cell_store.specs.declared.arguments.Equations.{Equations as ArgumentEquations}
use Rattle.cell_store.proofs.FreshLemmas.{all_stay, young_stays}
use Rattle.cell_store.proofs.UnificationLemmas.{ended, none_left, none_found, start_follows}

-- what was bound, and the equations that are left, give the whole unifier; the sides on the left are older
pub record IsSolvingInTurn (e : ArgumentEquations) (first now : StoreView) (fresh : Option ℕ) (es : List ArgumentEquations) : Type 0 where
  pub further : Substitution
  pub result : option_map (after further) (unifier (equations_left now es)) ≡ unifier (equations_left first (e ∷ []))
  pub binds : BindsFurther first now further
  pub there : AllEquations (text_in now) now.now.next es
  pub older : AreOlder fresh (equations_left now es)
  pub young : AreYoung now fresh

after_nothing : (o : Option Substitution) → option_map (after []) o ≡ o
after_nothing None = refl
after_nothing (Some s) = refl

pub begins_in_turn : (e : ArgumentEquations) (first : StoreView) (fresh : Option ℕ) → AllEquations (text_in first) first.now.next (e ∷ []) → AreOlder fresh (equations_left first (e ∷ [])) → AreYoung first fresh
    → IsSolvingInTurn e first first fresh (e ∷ [])
begins_in_turn e first fresh there o y = record {
  further = [];
  result = after_nothing (unifier (equations_left first (e ∷ [])));
  binds = record { bound = λ n. sym (resolve-nothing (value_of (substitution first) n)); others = refl };
  there = there;
  older = o;
  young = y;
}

after_twice : (s t u : Substitution) → after s (after t u) ≡ after (after s t) u
after_twice [] t u = refl
after_twice (v ∷ s) t u = ap₂ (λ r vs. (v.0, r) ∷ vs) (resolve-after t u v.1) (after_twice s t u)

afterwards : (s t : Substitution) (o : Option Substitution) → option_map (after (after s t)) o ≡ option_map (after s) (option_map (after t) o)
afterwards s t None = refl
afterwards s t (Some u) = ap Some (sym (after_twice s t u))

resolved_further : (s t now : Substitution) (u : Term) → IsComposition s t now → resolve now u ≡ resolve t (resolve s u)
resolved_further s t now u c = apply-same (value_of now) (λ n. resolve t (value_of s n)) c u ∙ sym (apply-apply (value_of t) (value_of s) u)

all_resolved_further : (s t now : Substitution) (eqs : Equations) → IsComposition s t now → resolved_equations now eqs ≡ resolved_equations t (resolved_equations s eqs)
all_resolved_further s t now [] c = refl
all_resolved_further s t now (e ∷ eqs) c =
    let left = resolved_further s t now e.0 c in
    let right = resolved_further s t now e.1 c in
    let rest = all_resolved_further s t now eqs c in cc

none_after : (s : Substitution) (o : Option Substitution) → o ≡ None → option_map (after s) o ≡ None
none_after s o e = ap (option_map (after s)) e

module _ (e : ArgumentEquations) (first now : StoreView) (fresh : Option ℕ) (f : ArgumentEquations) (h : IsSolvingInTurn e first now fresh (f ∷ [])) (others : List ArgumentEquations) (kept : KeepsRestEquations f [] others) where
  rest_kept : HasRestEquations (text_in now) now.now.next f [] others
  rest_kept = kept (text_in now) now.now.next h.there.0 tt

  first_is : equations_left now (f ∷ []) ≡ first_equation now f ++ equations_left now others
  first_is = ap (resolved_equations (substitution now)) (sym rest_kept.equations)

  by_first : unifier (equations_left now (f ∷ [])) ≡ further_unified (unifier (first_equation now f)) (equations_left now others)
  by_first = ap unifier first_is ∙ front_first (first_equation now f) (equations_left now others)

  -- the first has no unifier
  pub none_in_turn : unifier (first_equation now f) ≡ None → unifier (equations_left first (e ∷ [])) ≡ None
  none_in_turn n = sym h.result ∙ none_after h.further (unifier (equations_left now (f ∷ []))) (by_first ∙ ap (λ o. further_unified o (equations_left now others)) n)

  -- or was solved
  pub goes_on_in_turn : (new : StoreView) (to : Option ℕ) → IsFirstSolved f now new → StaysOlder now new fresh to → IsSolvingInTurn e first new to others
  goes_on_in_turn new to g s =
      let text : text_in new ≡ text_in now = ap text_in g.binds.others in
      let next : new.now.next ≡ now.now.next = ap (λ (v : StoreView). v.now.next) g.binds.others in
      let left : equations_left new others ≡ resolved_equations g.further (equations_left now others) =
      ap (λ c. resolved_equations (substitution new) (pending_equations c others)) text ∙ all_resolved_further (substitution now) g.further (substitution new) (pending_equations (text_in now) others) g.binds.bound in
      let found : unifier (equations_left now (f ∷ [])) ≡ option_map (after g.further) (unifier (equations_left new others)) =
      by_first ∙ (ap (λ o. further_unified o (equations_left now others)) g.unified ∙ ap (λ es. option_map (after g.further) (unifier es)) (sym left)) in
      record {
        further = after h.further g.further;
        result = afterwards h.further g.further (unifier (equations_left new others)) ∙ (ap (option_map (after h.further)) (sym found) ∙ h.result);
        binds = record {
          bound = λ n. g.binds.bound n ∙ (ap (resolve g.further) (h.binds.bound n) ∙ sym (resolve-after h.further g.further (value_of (substitution first) n)));
          others = g.binds.others ∙ ap (λ v. with_substitution (substitution new) v) h.binds.others;
        };
        there = subst (λ c. AllEquations c new.now.next others) (sym text) (subst (λ n. AllEquations (text_in now) n others) (sym next) rest_kept.there);
        older = subst (λ c. AreOlder to (resolved_equations (substitution new) (pending_equations c others))) (sym text)
            (all_stay now new fresh to (pending_equations (text_in now) others) s (subst (AreOlder fresh) first_is h.older).1);
        young = young_stays now new fresh to g.binds.others s.still h.young;
      }

-- none is left
pub all_solved_in_turn : (e : ArgumentEquations) (first now : StoreView) (fresh : Option ℕ) → IsSolvingInTurn e first now fresh [] → AreSolved (e ∷ []) first now
all_solved_in_turn e first now fresh h = record {
  further = after h.further [];
  unified = sym h.result ∙ ap (option_map (after h.further)) unifier_goes.none_left;
  binds = record {
    bound = λ n. h.binds.bound n ∙ (sym (resolve-nothing (resolve h.further (value_of (substitution first) n))) ∙ sym (resolve-after h.further [] (value_of (substitution first) n)));
    others = h.binds.others;
  };
}

-- the rule for the first equation
pub first_followed : (e : ArgumentEquations) (first new : StoreView) → FollowsRule first new (argument_meaning first e.left.base e.left.at) (argument_meaning first e.right.base e.right.at) [] → IsFirstSolved e first new
first_followed e first new f =
    let g = start_follows first new (argument_meaning first e.left.base e.left.at) (argument_meaning first e.right.base e.right.at) [] f in
    let k = none_left (first_equation first e) first new [] g.unifying refl g.others in
    record { further = k.further; unified = k.unified; binds = k.binds }

-- what it opens is solved
pub first_opened : (e inner : ArgumentEquations) (first now new : StoreView) (answer : Bool) → FollowsRule first now (argument_meaning first e.left.base e.left.at) (argument_meaning first e.right.base e.right.at) (inner ∷ []) → IsSolved (inner ∷ []) now new answer
    → SolvesFirst e first new answer
first_opened e inner first now new true f k =
    let g = start_follows first now (argument_meaning first e.left.base e.left.at) (argument_meaning first e.right.base e.right.at) (inner ∷ []) f in
    let m = ended (first_equation first e) first now new (equations_left now (inner ∷ [])) k.further g.unifying g.others k.unified k.binds in
    record { further = m.further; unified = m.unified; binds = m.binds }
first_opened e inner first now new false f k =
    let g = start_follows first now (argument_meaning first e.left.base e.left.at) (argument_meaning first e.right.base e.right.at) (inner ∷ []) f in
    none_found (first_equation first e) (substitution first) (substitution now) (equations_left now (inner ∷ [])) g.unifying k

pub answer_opened : {E : Type 0} (e inner : ArgumentEquations) (first now new : StoreView) (r : Result Bool E) → FollowsRule first now (argument_meaning first e.left.base e.left.at) (argument_meaning first e.right.base e.right.at) (inner ∷ []) → IfOk r (IsSolved (inner ∷ []) now new)
    → IfOk r (SolvesFirst e first new)
answer_opened e inner first now new (Ok answer) f k = first_opened e inner first now new answer f k
answer_opened e inner first now new (Err x) f k = k
