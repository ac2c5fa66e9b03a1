-- Solving equations, rule by rule.
use Rattle.std.proofs.Common.{nat_eq, nat_lt, ℤ, ◌≡◌, ℕ, ◌<◌, List, [], ◌∷◌, ◌++◌, Bool, true, false, cond, ◌==◌, Option, Some, None, refl, sym, ap, ◌∙◌, subst}
use Rattle.std.proofs.lemmas.List.{map-append}
use Rattle.std.specs.Option.{option_map}
use Rattle.std.specs.Ordering.{int_eq}
use Rattle.std.specs.Cmp.Lexicographic.{pointwise, other_text}
use Rattle.std.proofs.lemmas.Bool.Decides.{Decides-int_eq}
use Rattle.au_term.specs.Term.{Term, VarTerm, IntTerm, AtomTerm, Compound as CompoundTerm, Terms, end, more, count}
use Rattle.au_model.specs.Terms.Substitutions.{Substitution, apply, value_of, resolve, only}
use Rattle.au_model.specs.Terms.Unifier.{Equations, Rule, Dropped, Replaced, Opened, Clash, rule, by_rule, replace, bound, unifier, equations_bound, pairs}
use Rattle.au_model.specs.Terms.EquationsInTurn.{resolved_equations}
use Rattle.au_model.proofs.ApplyLemmas.{apply-same, apply-apply}
use Rattle.au_model.proofs.EquationsInTurnLemmas.{resolve-nothing}
use Rattle.au_model.proofs.UnifierRuleLemmas.{Says, rule_says}
use Rattle.au_model.proofs.UnifierMeasureLemmas.{AllBelow, work, less_dropped, less_bound, less_opened}
use Rattle.au_model.proofs.UnifierLemmas.{unifier-first, unifier_goes, all_below, bound_first}
use Rattle.au_term.proofs.LogicLemmas.{number_same, and-both}
use Rattle.cell_store.specs.Arguments.{argument_meaning}
use Rattle.cell_store.specs.StoreView.{StoreView, substitution, text_in, with_substitution, IsComposition, BindsFurther}
use Rattle.cell_store.specs.UnificationSteps.{equations_in, pending_equations, AllEquations, equations_left, FollowsRule, after_same, after_binding, after_opening, HasRestEquations, KeepsRestEquations}
use Rattle.cell_store.specs.declared.arguments.Equations.{Equations as ArgumentEquations}

-- the first binding holds first, and the rest of what it leaves
abbrev pub composed : List (ℕ × Term) → Substitution
composed [] = []
composed (b ∷ bs) = bound b.0 b.1 (composed bs)

-- what is found with what the rest gives
abbrev pub completed : List (ℕ × Term) → Option Substitution → Option Substitution
completed [] o = o
completed (b ∷ bs) o = option_map (bound b.0 b.1) (completed bs o)

completed-none : (bs : List (ℕ × Term)) → completed bs None ≡ None
completed-none [] = refl
completed-none (b ∷ bs) = ap (option_map (bound b.0 b.1)) (completed-none bs)

completed-push : (bs : List (ℕ × Term)) (x : ℕ) (t : Term) (o : Option Substitution) → completed (bs ++ (x, t) ∷ []) o ≡ completed bs (option_map (bound x t) o)
completed-push [] x t o = refl
completed-push (b ∷ bs) x t o = ap (option_map (bound b.0 b.1)) (completed-push bs x t o)

completed-some : (bs : List (ℕ × Term)) → completed bs (Some []) ≡ Some (composed bs)
completed-some [] = refl
completed-some (b ∷ bs) = ap (option_map (bound b.0 b.1)) (completed-some bs)

composed-push : (bs : List (ℕ × Term)) (x : ℕ) (t u : Term) → resolve (composed (bs ++ (x, t) ∷ [])) u ≡ apply (only x t) (resolve (composed bs) u)
composed-push [] x t u = bound_first [] x t u ∙ (resolve-nothing (apply (only x t) u) ∙ ap (apply (only x t)) (sym (resolve-nothing u)))
composed-push (b ∷ bs) x t u =
    bound_first (composed (bs ++ (x, t) ∷ [])) b.0 b.1 u ∙ (composed-push bs x t (apply (only b.0 b.1) u) ∙ ap (apply (only x t)) (sym (bound_first (composed bs) b.0 b.1 u)))

-- what was bound, and the equations that are left, give the whole unifier
pub record Unifying (eqs : Equations) (start now : Substitution) (left : Equations) : Type 0 where
  pub made : List (ℕ × Term)
  pub bound : IsComposition start (composed made) now
  pub result : completed made (unifier left) ≡ unifier eqs
  pub below : AllBelow (equations_bound eqs) left

abbrev pub left_work : Equations → Equations → ℕ
left_work eqs left = work (equations_bound eqs) left

true_unless : (b : Bool) → (b ≡ false → ⊥) → b ≡ true
true_unless true h = refl
true_unless false h = absurd (h refl)

text_itself : (f : List ℕ) → pointwise nat_eq f f ≡ true
text_itself f = true_unless (pointwise nat_eq f f) (λ e. other_text f f (sym e) refl)

int_itself : (z : ℤ) → int_eq z z ≡ true
int_itself z = (Decides-int_eq z z).1 refl

dropped_if : (b : Bool) (r : Rule) (eqs : Equations) → b ≡ true → by_rule (cond b Dropped r) eqs unifier ≡ unifier eqs
dropped_if b r eqs e = ap (λ c. by_rule (cond c Dropped r) eqs unifier) e

-- an equation of two terms that are the same adds nothing
mutual
  same_first : (a : Term) (eqs : Equations) → unifier ((a, a) ∷ eqs) ≡ unifier eqs
  same_first (VarTerm n) eqs = unifier-first (VarTerm n) (VarTerm n) eqs ∙ dropped_if (n == n) (cond (nat_lt n n) (Replaced n (VarTerm n)) (Replaced n (VarTerm n))) eqs (number_same n)
  same_first (IntTerm z) eqs = unifier-first (IntTerm z) (IntTerm z) eqs ∙ dropped_if (int_eq z z) Clash eqs (int_itself z)
  same_first (AtomTerm n) eqs = unifier-first (AtomTerm n) (AtomTerm n) eqs ∙ dropped_if (pointwise nat_eq n n) Clash eqs (text_itself n)
  same_first (CompoundTerm f ts) eqs =
      unifier-first (CompoundTerm f ts) (CompoundTerm f ts) eqs
      ∙ (ap (λ c. by_rule (cond c (Opened (pairs ts ts)) Clash) eqs unifier) (and-both (pointwise nat_eq f f) (count ts == count ts) (text_itself f) (number_same (count ts))) ∙ all_same_first ts eqs)

  all_same_first : (ts : Terms) (eqs : Equations) → unifier (pairs ts ts ++ eqs) ≡ unifier eqs
  all_same_first end eqs = refl
  all_same_first (more t ts) eqs = same_first t (pairs ts ts ++ eqs) ∙ all_same_first ts eqs

module _ (eqs : Equations) (start now : Substitution) (a b : Term) (rest : Equations) (u : Unifying eqs start now ((a, b) ∷ rest)) where
  abbrev n : ℕ
  n = equations_bound eqs

  first_result : completed u.made (by_rule (rule a b) rest unifier) ≡ unifier eqs
  first_result = ap (completed u.made) (sym (unifier-first a b rest)) ∙ u.result

  pub same_goes : a ≡ b → Unifying eqs start now rest × (left_work eqs rest < left_work eqs ((a, b) ∷ rest))
  same_goes e =
      let h = less_dropped n a b rest u.below in (
        record {
          made = u.made;
          bound = u.bound;
          result = ap (completed u.made) (sym (same_first a rest) ∙ ap (λ c. unifier ((a, c) ∷ rest)) e) ∙ u.result;
          below = h.below;
        },
        h.less,
      )

  pub binding_goes : (x : ℕ) (t : Term) (next : Substitution) → rule a b ≡ Replaced x t → IsComposition now ((x, t) ∷ []) next → Unifying eqs start next (replace x t rest) × (left_work eqs (replace x t rest) < left_work eqs ((a, b) ∷ rest))
  binding_goes x t next k c =
      let h = less_bound n a b rest x t u.below (subst (Says a b) k (rule_says a b)) in (
        record {
          made = u.made ++ (x, t) ∷ [];
          bound = λ v. c v ∙ (ap (apply (only x t)) (u.bound v) ∙ sym (composed-push u.made x t (value_of start v)));
          result = completed-push u.made x t (unifier (replace x t rest)) ∙ (ap (λ q. completed u.made (by_rule q rest unifier)) (sym k) ∙ first_result);
          below = h.below;
        },
        h.less,
      )

  pub opening_goes : (es : Equations) → rule a b ≡ Opened es → Unifying eqs start now (es ++ rest) × (left_work eqs (es ++ rest) < left_work eqs ((a, b) ∷ rest))
  opening_goes es k =
      let h = less_opened n a b rest es u.below (subst (Says a b) k (rule_says a b)) in (
        record {
          made = u.made;
          bound = u.bound;
          result = ap (λ q. completed u.made (by_rule q rest unifier)) (sym k) ∙ first_result;
          below = h.below;
        },
        h.less,
      )

  pub clash_ends : rule a b ≡ Clash → unifier eqs ≡ None
  clash_ends k = sym first_result ∙ (ap (λ q. completed u.made (by_rule q rest unifier)) k ∙ completed-none u.made)

-- what is bound after a binding
pub resolved_binding : (s now : Substitution) (x : ℕ) (t u : Term) → IsComposition s ((x, t) ∷ []) now → resolve now u ≡ apply (only x t) (resolve s u)
resolved_binding s now x t u c = apply-same (value_of now) (λ n. apply (only x t) (value_of s n)) c u ∙ sym (apply-apply (only x t) (value_of s) u)

replaced : (s now : Substitution) (x : ℕ) (t : Term) (eqs : Equations) → IsComposition s ((x, t) ∷ []) now → resolved_equations now eqs ≡ replace x t (resolved_equations s eqs)
replaced s now x t [] c = refl
replaced s now x t (e ∷ eqs) c =
    let left = resolved_binding s now x t e.0 c in
    let right = resolved_binding s now x t e.1 c in
    let rest = replaced s now x t eqs c in cc

pub resolved_append : (s : Substitution) (es fs : Equations) → resolved_equations s (es ++ fs) ≡ resolved_equations s es ++ resolved_equations s fs
resolved_append s es fs = map-append (λ e. (resolve s e.0, resolve s e.1)) es fs

-- how a rule goes on
pub record GoesOn (eqs : Equations) (first old new : StoreView) (work_before : ℕ) (es : List ArgumentEquations) : Type 0 where
  pub unifying : Unifying eqs (substitution first) (substitution new) (equations_left new es)
  pub there : AllEquations (text_in new) new.now.next es
  pub others : new ≡ with_substitution (substitution new) first
  pub less : left_work eqs (equations_left new es) < work_before

module _ (eqs : Equations) (first st : StoreView) (a b : Term) (es : List ArgumentEquations) (u : Unifying eqs (substitution first) (substitution st) ((a, b) ∷ equations_left st es)) (there : AllEquations (text_in st) st.now.next es) (others : st ≡ with_substitution (substitution st) first) where
  abbrev rest : Equations
  rest = equations_left st es

  abbrev before : ℕ
  before = left_work eqs ((a, b) ∷ rest)

  unchanged : (left : Equations) (fs : List ArgumentEquations) → Unifying eqs (substitution first) (substitution st) left × (left_work eqs left < before) → left ≡ equations_left st fs → AllEquations (text_in st) st.now.next fs → GoesOn eqs first st st before fs
  unchanged left fs g e t = record {
    unifying = subst (Unifying eqs (substitution first) (substitution st)) e g.0;
    there = t;
    others = others;
    less = subst (λ k. left_work eqs k < before) e g.1;
  }

  rebound : (new : StoreView) (x : ℕ) (t : Term) → rule a b ≡ Replaced x t → BindsFurther st new ((x, t) ∷ []) → GoesOn eqs first st new before es
  rebound new x t k f =
      let g = binding_goes eqs (substitution first) (substitution st) a b rest u x t (substitution new) k f.bound in
      let text : text_in new ≡ text_in st = ap text_in f.others in
      let next : new.now.next ≡ st.now.next = ap (λ (v : StoreView). v.now.next) f.others in
      let left : replace x t rest ≡ equations_left new es =
      sym (replaced (substitution st) (substitution new) x t (pending_equations (text_in st) es) f.bound) ∙ ap (λ c. resolved_equations (substitution new) (pending_equations c es)) (sym text) in
      record {
        unifying = subst (Unifying eqs (substitution first) (substitution new)) left g.0;
        there = subst (λ c. AllEquations c new.now.next es) (sym text) (subst (λ n. AllEquations (text_in st) n es) (sym next) there);
        others = f.others ∙ ap (λ v. with_substitution (substitution new) v) others;
        less = subst (λ k. left_work eqs k < before) left g.1;
      }

  pub follows : (new : StoreView) (opened : List ArgumentEquations) → FollowsRule st new a b opened → GoesOn eqs first st new before (opened ++ es)
  follows new opened (after_same e n f) =
      subst (λ v. GoesOn eqs first st v before (opened ++ es)) (sym n) (subst (λ gs. GoesOn eqs first st st before (gs ++ es)) (sym f) (unchanged rest es (same_goes eqs (substitution first) (substitution st) a b rest u e) refl there))
  follows new opened (after_binding x t k f g) = subst (λ gs. GoesOn eqs first st new before (gs ++ es)) (sym g) (rebound new x t k f)
  follows new opened (after_opening e k t n f) =
      let inner = resolved_equations (substitution st) (equations_in (text_in st) e) in
      subst (λ v. GoesOn eqs first st v before (opened ++ es)) (sym n)
      (subst (λ gs. GoesOn eqs first st st before (gs ++ es)) (sym f)
      (unchanged (inner ++ rest) (e ∷ es) (opening_goes eqs (substitution first) (substitution st) a b rest u inner k) (sym (resolved_append (substitution st) (equations_in (text_in st) e) (pending_equations (text_in st) es))) (t, there)))

-- all equations
pub begun : (eqs : Equations) (s : Substitution) (left : Equations) → left ≡ eqs → Unifying eqs s s left
begun eqs s left e = record {
  made = [];
  bound = λ n. sym (resolve-nothing (value_of s n));
  result = ap unifier e;
  below = subst (AllBelow (equations_bound eqs)) (sym e) (all_below eqs);
}

-- what is found with what the rest gives is bound after the first bindings
abbrev composed_onto : List (ℕ × Term) → Substitution → Substitution
composed_onto [] f = f
composed_onto (b ∷ bs) f = bound b.0 b.1 (composed_onto bs f)

completed-onto : (bs : List (ℕ × Term)) (f : Substitution) → completed bs (Some f) ≡ Some (composed_onto bs f)
completed-onto [] f = refl
completed-onto (b ∷ bs) f = ap (option_map (bound b.0 b.1)) (completed-onto bs f)

onto_composed : (bs : List (ℕ × Term)) (f : Substitution) (u : Term) → resolve (composed_onto bs f) u ≡ resolve f (resolve (composed bs) u)
onto_composed [] f u = ap (resolve f) (sym (resolve-nothing u))
onto_composed (b ∷ bs) f u =
    bound_first (composed_onto bs f) b.0 b.1 u ∙ (onto_composed bs f (apply (only b.0 b.1) u) ∙ ap (resolve f) (sym (bound_first (composed bs) b.0 b.1 u)))

-- the unifier of equations was bound
pub record Ended (eqs : Equations) (first now : StoreView) : Type 0 where
  pub further : Substitution
  pub unified : unifier eqs ≡ Some further
  pub binds : BindsFurther first now further

-- where that of the equations that are left is
pub ended : (eqs : Equations) (first now new : StoreView) (left : Equations) (f : Substitution) → Unifying eqs (substitution first) (substitution now) left
    → now ≡ with_substitution (substitution now) first → unifier left ≡ Some f → BindsFurther now new f → Ended eqs first new
ended eqs first now new left f u others e b = record {
  further = composed_onto u.made f;
  unified = sym u.result ∙ (ap (completed u.made) e ∙ completed-onto u.made f);
  binds = record {
    bound = λ n. b.bound n ∙ (ap (resolve f) (u.bound n) ∙ sym (onto_composed u.made f (value_of (substitution first) n)));
    others = b.others ∙ ap (λ v. with_substitution (substitution new) v) others;
  };
}

-- and where none is left
pub none_left : (eqs : Equations) (first now : StoreView) (left : Equations) → Unifying eqs (substitution first) (substitution now) left → left ≡ []
    → now ≡ with_substitution (substitution now) first → Ended eqs first now
none_left eqs first now left u e others = record {
  further = composed u.made;
  unified = sym u.result ∙ (ap (λ k. completed u.made (unifier k)) e ∙ (ap (completed u.made) unifier_goes.none_left ∙ completed-some u.made));
  binds = record { bound = u.bound; others = others };
}

-- they have none where the equations that are left have none
pub none_found : (eqs : Equations) (start now : Substitution) (left : Equations) → Unifying eqs start now left → unifier left ≡ None → unifier eqs ≡ None
none_found eqs start now left u e = sym u.result ∙ (ap (completed u.made) e ∙ completed-none u.made)

-- the first of the equations that are gone through is the first one that is left
module _ (eqs : Equations) (first st : StoreView) (waiting others : List ArgumentEquations) (e : ArgumentEquations) (u : Unifying eqs (substitution first) (substitution st) (equations_left st (e ∷ waiting))) (there : AllEquations (text_in st) st.now.next (e ∷ waiting)) (kept : KeepsRestEquations e waiting others) where
  abbrev left : Term
  left = argument_meaning st e.left.base e.left.at

  abbrev right : Term
  right = argument_meaning st e.right.base e.right.at

  rest_kept : HasRestEquations (text_in st) st.now.next e waiting others
  rest_kept = kept (text_in st) st.now.next there.0 there.1

  pub first_is : equations_left st (e ∷ waiting) ≡ (left, right) ∷ equations_left st others
  first_is = ap (resolved_equations (substitution st)) (sym rest_kept.equations)

  now_unifying : Unifying eqs (substitution first) (substitution st) ((left, right) ∷ equations_left st others)
  now_unifying = subst (Unifying eqs (substitution first) (substitution st)) first_is u

  pub first_follows : (same : st ≡ with_substitution (substitution st) first) (new : StoreView) (opened : List ArgumentEquations) → FollowsRule st new left right opened → GoesOn eqs first st new (left_work eqs (equations_left st (e ∷ waiting))) (opened ++ others)
  first_follows same new opened f = subst (λ k. GoesOn eqs first st new (left_work eqs k) (opened ++ others)) (sym first_is) (follows eqs first st left right others now_unifying rest_kept.there same new opened f)

  pub first_clashes : rule left right ≡ Clash → unifier eqs ≡ None
  first_clashes k = clash_ends eqs (substitution first) (substitution st) left right (equations_left st others) now_unifying k

-- and at the beginning
pub start_follows : (first new : StoreView) (a b : Term) (opened : List ArgumentEquations) → FollowsRule first new a b opened → GoesOn ((a, b) ∷ []) first first new (left_work ((a, b) ∷ []) ((a, b) ∷ [])) (opened ++ [])
start_follows first new a b opened f = follows ((a, b) ∷ []) first first a b [] (begun ((a, b) ∷ []) (substitution first) ((a, b) ∷ []) refl) tt refl new opened f

pub start_clashes : (first : StoreView) (a b : Term) → rule a b ≡ Clash → unifier ((a, b) ∷ []) ≡ None
start_clashes first a b k = clash_ends ((a, b) ∷ []) (substitution first) (substitution first) a b [] (begun ((a, b) ∷ []) (substitution first) ((a, b) ∷ []) refl) k
