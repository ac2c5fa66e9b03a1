-- Older terms stay older.
use Rattle.std.proofs.Common.{◌≡◌, ◌⊎◌, inl, inr, ℕ, ◌<◌, ◌≤◌, Bool, true, false, cond, ◌==◌, List, [], ◌∷◌, ◌++◌, Option, Some, None, IfSome, refl, sym, ap, ◌∙◌, subst, arith}
use Rattle.std.proofs.lemmas.Bool.Decides.{nat_tests}
use Rattle.au_term.specs.Term.{Term, VarTerm, Compound as CompoundTerm, Terms, end, more, var_bound, all_bound}
use Rattle.au_term.proofs.LogicLemmas.{true_false}
use Rattle.au_model.specs.Terms.Each.{Each}
use Rattle.au_model.proofs.EachLemmas.{each-append, each-more}
use Rattle.au_model.specs.Terms.Substitutions.{apply, resolve, only, occurs}
use Rattle.au_model.specs.Terms.Unifier.{Equations, Clash, Opened, Replaced, rule, variable_rule, pairs}
use Rattle.au_model.specs.Terms.EquationsInTurn.{resolved_equations}
use Rattle.au_model.proofs.UnifierRuleLemmas.{Says, rule_says}
use Rattle.binding_array.specs.declared.cell.BindingCell.{BindingCell}
use Rattle.binding_array.specs.declared.cell.BindingCell.TheVariants.{Free, Var, Int, Atom, Compound}
use Rattle.binding_array.specs.Represented.{IsFalling}
use Rattle.cell_store.specs.FreshVariables.{AreYoung, IsOlder, AreOlder, is_fresh, fresh_after, StaysOlder}
use Rattle.cell_store.specs.Values.{IsNoVariable}
use Rattle.cell_store.specs.StoreView.{StoreView, substitution, meaning, text_in, with_substitution, BindsFurther, IsUnbound, IsValueIn}
use Rattle.cell_store.specs.UnificationSteps.{equations_in, equations_left, pending_equations, FollowsRule, after_same, after_binding, after_opening, IsBoundOr}
use Rattle.cell_store.specs.declared.arguments.Equations.{Equations as ArgumentEquations}
use Rattle.cell_store.specs.declared.unify.Outcome.{Outcome}
use Rattle.cell_store.specs.declared.unify.Outcome.TheVariants.{Clash as ClashOutcome, Solved, Inside}
use Rattle.cell_store.proofs.OccurrenceLemmas.{kept_below, occurs_below}
use Rattle.cell_store.proofs.RuleLemmas.{right_bound, rule_right}
use Rattle.cell_store.proofs.UnificationLemmas.{resolved_binding, resolved_append}

-- a fresh variable is not in an older term
pub fresh_apart : (x : ℕ) (fresh : Option ℕ) (t : Term) → is_fresh x fresh ≡ true → IsOlder fresh t → occurs x t ≡ false
fresh_apart x None t f o = absurd (true_false (sym f))
fresh_apart x (Some base) t f o = by_test (occurs x t) refl
  where
    by_test : (b : Bool) → occurs x t ≡ b → b ≡ false
    by_test true e = let lt = occurs_below x t e in let le : base ≤ x = grind (arith, nat_tests) in absurd (omega arith)
    by_test false e = refl

not_inside : (x : ℕ) (t : Term) → occurs x t ≡ false → variable_rule x t ≡ Replaced x t
not_inside x t e = ap (λ b. cond b Clash (Replaced x t)) e

-- an older term put in a variable's place
pub older_put : (from : Option ℕ) (x : ℕ) (t u : Term) → IsOlder from t → IsOlder from u → IsOlder from (apply (only x t) u)
older_put None x t u o p = tt
older_put (Some base) x t u o p = kept_below (only x t) base u (λ w k. by_test w (x == w) (omega (arith, occurs_below w u k)))
  where
    by_test : (w : ℕ) (b : Bool) → w < base → var_bound (cond b t (VarTerm w)) ≤ base
    by_test w true lt = o
    by_test w false lt = omega arith

pub binding_stays : (old new : StoreView) (from : Option ℕ) (x : ℕ) (t : Term) → BindsFurther old new ((x, t) ∷ []) → IsOlder from t → StaysOlder old new from from
binding_stays old new from x t b o = record {
  still = inl refl;
  kept = λ u p. subst (IsOlder from) (sym (resolved_binding (substitution old) (substitution new) x t u b.bound)) (older_put from x t (resolve (substitution old) u) o p);
}

pub nothing_stays : (old new : StoreView) (from : Option ℕ) → new ≡ old → StaysOlder old new from from
nothing_stays old new from e = record { still = inl refl; kept = λ t p. subst (λ st. IsOlder from (resolve (substitution st) t)) (sym e) p }

pub ended_stays : (old new : StoreView) (from : Option ℕ) → StaysOlder old new from None
ended_stays old new from = record { still = inr refl; kept = λ t p. tt }

-- and what stays older does so twice
pub stays_older : (old now new : StoreView) (a b c : Option ℕ) → StaysOlder old now a b → StaysOlder now new b c → StaysOlder old new a c
stays_older old now new a b c s t = by_end t.still
  where
    by_end : (c ≡ b) ⊎ (c ≡ None) → StaysOlder old new a c
    by_end (inl e) = record {
      still = subst (λ f. (f ≡ a) ⊎ (f ≡ None)) (sym e) s.still;
      kept = λ u o. t.kept u (subst (λ f. IsOlder f (resolve (substitution now) u)) (sym e) (s.kept u (subst (λ f. IsOlder f (resolve (substitution old) u)) e o)));
    }
    by_end (inr e) = subst (StaysOlder old new a) (sym e) (ended_stays old new a)

no_variables : (from : Option ℕ) (t : Term) → var_bound t ≡ 0 → IsOlder from t
no_variables None t e = tt
no_variables (Some base) t e = omega (arith, e)

-- of a binding to something older
pub right_stays : (old new : StoreView) (from : Option ℕ) (x : ℕ) (t : Term) (outcome : Outcome) → IsOlder from t → IsBoundOr x t old new outcome → StaysOlder old new from from
right_stays old new from x t ClashOutcome o h = nothing_stays old new from h.1
right_stays old new from x t Solved o h = binding_stays old new from x t h.1 o
right_stays old new from x t (Inside e) o h = absurd h

-- of a binding of an older variable
pub left_stays : (old new : StoreView) (from to : Option ℕ) (x : ℕ) (c : BindingCell) (outcome : Outcome) → IsNoVariable c → to ≡ fresh_after from c → IsBoundOr x (meaning old c) old new outcome → StaysOlder old new from to
left_stays old new from to x Free outcome n e h = absurd n
left_stays old new from to x (Var v) outcome n e h = absurd n
left_stays old new from to x (Int z) outcome n e h = subst (StaysOlder old new from) (sym e) (right_stays old new from x (meaning old (Int z)) outcome (no_variables from (meaning old (Int z)) refl) h)
left_stays old new from to x (Atom a) outcome n e h = subst (StaysOlder old new from) (sym e) (right_stays old new from x (meaning old (Atom a)) outcome (no_variables from (meaning old (Atom a)) refl) h)
left_stays old new from to x (Compound at base) outcome n e h = subst (StaysOlder old new from) (sym e) (ended_stays old new from)

-- what is young stays so
pub young_stays : (old new : StoreView) (from to : Option ℕ) → new ≡ with_substitution (substitution new) old → (to ≡ from) ⊎ (to ≡ None) → AreYoung old from → AreYoung new to
young_stays old new from to k (inl e) y = subst (AreYoung new) (sym e) (by_first from y)
  where
    by_first : (o : Option ℕ) → AreYoung old o → AreYoung new o
    by_first None y = tt
    by_first (Some base) y = subst (λ (st : StoreView). Each (λ m. m.next ≤ base) (st.floor ∷ st.marks)) (sym k) y
young_stays old new from to k (inr e) y = subst (AreYoung new) (sym e) tt

pub fresh_young : (st : StoreView) (x : ℕ) (fresh : Option ℕ) → AreYoung st fresh → is_fresh x fresh ≡ true → Each (λ m. m.next ≤ x) (st.floor ∷ st.marks)
fresh_young st x None y f = absurd (true_false (sym f))
fresh_young st x (Some base) y f = let le : base ≤ x = grind (arith, nat_tests) in each-more (λ m. m.next ≤ base) (λ m. m.next ≤ x) (λ m l. omega (arith, l, le)) (st.floor ∷ st.marks) y

pub first_older_than : (o : Option ℕ) (base : ℕ) (t : Term) → IfSome o (λ n. n ≡ base) → var_bound t ≤ base → IsOlder o t
first_older_than None base t e l = tt
first_older_than (Some n) base t e l = omega (arith, e, l)

pub weaker : (from to : Option ℕ) (t : Term) → (to ≡ from) ⊎ (to ≡ None) → IsOlder from t → IsOlder to t
weaker from to t (inl e) o = subst (λ f. IsOlder f t) (sym e) o
weaker from to t (inr e) o = subst (λ f. IsOlder f t) (sym e) tt

pub all_stay : (old new : StoreView) (from to : Option ℕ) (eqs : Equations) → StaysOlder old new from to → AreOlder from (resolved_equations (substitution old) eqs) → AreOlder to (resolved_equations (substitution new) eqs)
all_stay old new from to [] s o = tt
all_stay old new from to (e ∷ eqs) s o = (s.kept e.0 (weaker from to (resolve (substitution old) e.0) s.still o.0), all_stay old new from to eqs s o.1)

abbrev IsOlderAll : Option ℕ → Terms → Type 0
IsOlderAll from end = Unit {0}
IsOlderAll from (more t ts) = IsOlder from t × IsOlderAll from ts

none_fresh : (ts : Terms) → IsOlderAll None ts
none_fresh end = tt
none_fresh (more t ts) = (tt, none_fresh ts)

all_below : (base : ℕ) (ts : Terms) → all_bound ts ≤ base → IsOlderAll (Some base) ts
all_below base end le = tt
all_below base (more t ts) le = (omega arith, all_below base ts (omega arith))

arguments_older : (from : Option ℕ) (name : List ℕ) (ts : Terms) → IsOlder from (CompoundTerm name ts) → IsOlderAll from ts
arguments_older None name ts o = none_fresh ts
arguments_older (Some base) name ts o = all_below base ts o

inside : (from : Option ℕ) (ts us : Terms) → IsOlderAll from ts → AreOlder from (pairs ts us)
inside from end us o = tt
inside from (more t ts) end o = tt
inside from (more t ts) (more u us) o = (o.0, inside from ts us o.1)

-- what is opened is older too
pub opened_older : (from : Option ℕ) (a b : Term) (es : Equations) → rule a b ≡ Opened es → IsOlder from a → AreOlder from es
opened_older from a b es r o =
    let says = subst (Says a b) r (rule_says a b) in
    subst (AreOlder from) (sym says.es_are) (inside from says.left says.right (arguments_older from says.name says.left (subst (IsOlder from) says.a_is o)))

pub older_follows : (from to : Option ℕ) (st new : StoreView) (a b : Term) (es opened : List ArgumentEquations) → AreOlder from ((a, b) ∷ equations_left st es) → new ≡ with_substitution (substitution new) st → FollowsRule st new a b opened → StaysOlder st new from to → AreOlder to (equations_left new (opened ++ es))
older_follows from to st new a b es opened o others f s = subst (λ c. AreOlder to (resolved_equations (substitution new) (pending_equations c (opened ++ es)))) (sym (ap text_in others)) (all_stay st new from to (pending_equations (text_in st) (opened ++ es)) s (by_rule f))
  where
    by_rule : FollowsRule st new a b opened → AreOlder from (equations_left st (opened ++ es))
    by_rule (after_same e n g) = subst (λ gs. AreOlder from (equations_left st (gs ++ es))) (sym g) o.1
    by_rule (after_binding x t k h g) = subst (λ gs. AreOlder from (equations_left st (gs ++ es))) (sym g) o.1
    by_rule (after_opening e k t n g) =
        subst (λ gs. AreOlder from (equations_left st (gs ++ es))) (sym g)
        (subst (AreOlder from) (sym (resolved_append (substitution st) (equations_in (text_in st) e) (pending_equations (text_in st) es))) (each-append (λ q. IsOlder from q.0) (resolved_equations (substitution st) (equations_in (text_in st) e)) (equations_left st es) (opened_older from a b _ k o.0) o.1))

pub smaller_older : (from : Option ℕ) (n m : ℕ) → n < m → IsOlder from (VarTerm m) → IsOlder from (VarTerm n)
smaller_older None n m lt o = tt
smaller_older (Some base) n m lt o = omega (arith, lt, o)

pub falls : (x : ℕ) (c : BindingCell) → IsNoVariable c → IsFalling x c
falls x Free n = absurd n
falls x (Var v) n = absurd n
falls x (Int z) n = tt
falls x (Atom a) n = tt
falls x (Compound at base) n = tt

-- what is older than a clause is, or is below, none of the clause's variables
pub falls_below : (st : StoreView) (x : ℕ) (fresh : Option ℕ) (c : BindingCell) → is_fresh x fresh ≡ true → IsUnbound (substitution st) c → IsOlder fresh (meaning st c) → IsFalling x c
falls_below st x None c f u o = absurd (true_false (sym f))
falls_below st x (Some base) Free f u o = tt
falls_below st x (Some base) (Var w) f u o =
    let below : var_bound (VarTerm w) ≤ base = subst (λ t. var_bound t ≤ base) u o in
    let le : base ≤ x = grind (arith, nat_tests) in
    omega (arith, below, le)
falls_below st x (Some base) (Int z) f u o = tt
falls_below st x (Some base) (Atom a) f u o = tt
falls_below st x (Some base) (Compound at to) f u o = tt

-- a clause's variable takes what is older
pub rule_fresh : (st : StoreView) (x : ℕ) (fresh : Option ℕ) (c : BindingCell) → is_fresh x fresh ≡ true → IsUnbound (substitution st) c → IsValueIn st c → IsOlder fresh (meaning st c)
    → rule (meaning st c) (VarTerm x) ≡ Replaced x (meaning st c)
rule_fresh st x fresh Free f u v o = absurd v
rule_fresh st x fresh (Var w) f u v o = subst (λ t. rule t (VarTerm x) ≡ Replaced x t) (sym u) (right_bound w x (falls_below st x fresh (Var w) f u o))
rule_fresh st x fresh (Int z) f u v o = rule_right st x (Int z) tt v ∙ not_inside x (meaning st (Int z)) (fresh_apart x fresh (meaning st (Int z)) f o)
rule_fresh st x fresh (Atom a) f u v o = rule_right st x (Atom a) tt v ∙ not_inside x (meaning st (Atom a)) (fresh_apart x fresh (meaning st (Atom a)) f o)
rule_fresh st x fresh (Compound at base) f u v o =
    rule_right st x (Compound at base) tt v ∙ not_inside x (meaning st (Compound at base)) (fresh_apart x fresh (meaning st (Compound at base)) f o)
