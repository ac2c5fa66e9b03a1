-- One more binding is made.
use Rattle.std.proofs.Common.{◌≡◌, ℕ, ◌<◌, ◌≤◌, ◌==◌, Bool, true, false, ◌&&◌, ◌||◌, not, cond, nat_lt, List, [], ◌∷◌, ◌++◌, Option, Some, None, refl, sym, ap, ◌∙◌, subst, arith}
use Rattle.std.proofs.lemmas.Bool.Decides.{nat_tests}
use Rattle.std.proofs.lemmas.List.{map-append}
use Rattle.std.proofs.lemmas.List.Folds.{list_all-append, list_any-append}
use Rattle.std.specs.List.{list_all}
use Rattle.std.specs.Option.{option_map}
use Rattle.std.specs.Prelude.{is_some}
use Rattle.au_term.proofs.LogicLemmas.{both, and-both, or-left, or-right, not-true, false_true, numbers_turned}
use Rattle.au_term.specs.Term.{Term, VarTerm, IntTerm, AtomTerm, Compound}
use Rattle.au_term.specs.declared.segment.Binding.{Binding}
use Rattle.au_model.proofs.ApplyLemmas.{apply-same}
use Rattle.au_model.proofs.EquationOrderLemmas.{KeepsOlder, keeps_older}
use Rattle.au_model.proofs.EquationsInTurnLemmas.{resolve-nothing, resolve-after, front_first}
use Rattle.au_model.proofs.UnifierLemmas.{unifier-first, unifier_goes}
use Rattle.au_model.specs.Terms.EquationsInTurn.{after, resolved_equations, further_unified}
use Rattle.au_model.specs.Terms.MostGeneral.{SameValues}
use Rattle.au_model.specs.Terms.Substitutions.{Substitution, value_of, resolve, occurs}
use Rattle.au_model.specs.Terms.Unifier.{Equations, Replaced, Clash, rule, by_rule, bound, unifier}
use Rattle.cell_store.specs.StoreView.{IsComposition}
use Rattle.branch_reading.specs.BranchSegments.{binding_equations}
use Rattle.branch_reading.specs.SettledWays.{is_bound_back, is_binding_settled, binds_variable, are_bound_once, are_bindings_settled}
use Rattle.task_region.specs.MadeInTurn.{IsMadeBy}

abbrev pub equation_of : Binding → Term × Term
equation_of b = (VarTerm b.var, b.value)

equations-append : (xs ys : List Binding) → binding_equations (xs ++ ys) ≡ binding_equations xs ++ binding_equations ys
equations-append xs ys = map-append equation_of xs ys

-- bindings in front
once-front : (xs ys : List Binding) → are_bound_once (xs ++ ys) ≡ true → are_bound_once xs ≡ true
once-front [] ys h = refl
once-front (x ∷ xs) ys h =
    let parts = both (not (binds_variable x.var (xs ++ ys))) (are_bound_once (xs ++ ys)) h in
    let none : (binds_variable x.var xs || binds_variable x.var ys) ≡ false = sym (list_any-append (λ b. b.var == x.var) xs ys)
    ∙ not-true (binds_variable x.var (xs ++ ys)) parts.0 in
    and-both (not (binds_variable x.var xs)) (are_bound_once xs) (ap not (or-left (binds_variable x.var xs) (binds_variable x.var ys) none))
    (once-front xs ys parts.1)

once-last : (xs : List Binding) (b : Binding) → are_bound_once (xs ++ b ∷ []) ≡ true → binds_variable b.var xs ≡ false
once-last [] b h = refl
once-last (x ∷ xs) b h =
    let parts = both (not (binds_variable x.var (xs ++ b ∷ []))) (are_bound_once (xs ++ b ∷ [])) h in
    let none : (binds_variable x.var xs || ((b.var == x.var) || false)) ≡ false
    = sym (list_any-append (λ d. d.var == x.var) xs (b ∷ [])) ∙ not-true (binds_variable x.var (xs ++ b ∷ [])) parts.0 in
    let other : (b.var == x.var) ≡ false = or-left (b.var == x.var) false (or-right (binds_variable x.var xs) ((b.var == x.var) || false) none) in
    let turned : (x.var == b.var) ≡ false = numbers_turned b.var x.var other in
    rw turned (once-last xs b parts.1)

some-front : (o : Option Substitution) (eqs : Equations) → is_some (further_unified o eqs) ≡ true → is_some o ≡ true
some-front None eqs h = h
some-front (Some s) eqs h = refl

unified-front : (xs ys : List Binding) → is_some (unifier (binding_equations (xs ++ ys))) ≡ true → is_some (unifier (binding_equations xs)) ≡ true
unified-front xs ys h =
    some-front (unifier (binding_equations xs)) (binding_equations ys)
    (sym (ap is_some (ap unifier (equations-append xs ys) ∙ front_first (binding_equations xs) (binding_equations ys))) ∙ h)

pub settled-front : (next : ℕ) (xs ys : List Binding) → are_bindings_settled next (xs ++ ys) ≡ true → are_bindings_settled next xs ≡ true
settled-front next xs ys h =
    let p = both (list_all (is_binding_settled next) (xs ++ ys)) (are_bound_once (xs ++ ys) && is_some (unifier (binding_equations (xs ++ ys)))) h in
    let q = both (are_bound_once (xs ++ ys)) (is_some (unifier (binding_equations (xs ++ ys)))) p.1 in
    let all = both (list_all (is_binding_settled next) xs) (list_all (is_binding_settled next) ys)
    (sym (list_all-append (is_binding_settled next) xs ys) ∙ p.0) in
    and-both (list_all (is_binding_settled next) xs) (are_bound_once xs && is_some (unifier (binding_equations xs))) all.0
    (and-both (are_bound_once xs) (is_some (unifier (binding_equations xs))) (once-front xs ys q.0) (unified-front xs ys q.1))

-- what is known of the last one
pub record IsLastSettled (next : ℕ) (before : List Binding) (b : Binding) : Type 0 where
  pub binding : is_binding_settled next b ≡ true
  pub free : binds_variable b.var before ≡ false
  pub unified : is_some (unifier (binding_equations before ++ equation_of b ∷ [])) ≡ true

pub last_settled : (next : ℕ) (before : List Binding) (b : Binding) → are_bindings_settled next (before ++ b ∷ []) ≡ true → IsLastSettled next before b
last_settled next before b h =
    let xs = before ++ b ∷ [] in
    let p = both (list_all (is_binding_settled next) xs) (are_bound_once xs && is_some (unifier (binding_equations xs))) h in
    let q = both (are_bound_once xs) (is_some (unifier (binding_equations xs))) p.1 in
    let all = both (list_all (is_binding_settled next) before) (is_binding_settled next b && true)
    (sym (list_all-append (is_binding_settled next) before (b ∷ [])) ∙ p.0) in
    record {
      binding = (both (is_binding_settled next b) true all.1).0;
      free = once-last before b q.0;
      unified = sym (ap (λ es. is_some (unifier es)) (equations-append before (b ∷ []))) ∙ q.1;
    }

-- a variable that stands for itself and a term in which it is not, or that is older, are made one by binding it
record IsReplacing (v : ℕ) (t : Term) : Type 0 where
  rule_is : rule (VarTerm v) t ≡ Replaced v t
  apart : occurs v t ≡ false

clash_none : {A : Type 0} (v : ℕ) (t : Term) → rule (VarTerm v) t ≡ Clash → is_some (unifier ((VarTerm v, t) ∷ [])) ≡ true → A
clash_none v t e h = false_true (sym (ap is_some (unifier-first (VarTerm v) t [] ∙ ap (λ r. by_rule r [] unifier) e)) ∙ h)

replacing : (v : ℕ) (t : Term) → ((w : ℕ) → t ≡ VarTerm w → w < v) → is_some (unifier ((VarTerm v, t) ∷ [])) ≡ true → IsReplacing v t
replacing v (VarTerm w) older h =
    let less : w < v = older w refl in
    let apart : (v == w) ≡ false = grind (arith, nat_tests) in
    let down : nat_lt v w ≡ false = grind (arith, nat_tests) in
    record { rule_is = rw (apart, down) refl; apart = apart }
replacing v (IntTerm z) older h = record { rule_is = refl; apart = refl }
replacing v (AtomTerm a) older h = record { rule_is = refl; apart = refl }
replacing v (Compound f ts) older h = by_test (occurs v (Compound f ts)) refl
  where
    by_test : (b : Bool) → occurs v (Compound f ts) ≡ b → IsReplacing v (Compound f ts)
    by_test true e = clash_none v (Compound f ts) (ap (λ x. cond x Clash (Replaced v (Compound f ts))) e) h
    by_test false e = record { rule_is = ap (λ x. cond x Clash (Replaced v (Compound f ts))) e; apart = e }

one_bound : (v : ℕ) (t : Term) → rule (VarTerm v) t ≡ Replaced v t → unifier ((VarTerm v, t) ∷ []) ≡ Some ((v, resolve [] t) ∷ [])
one_bound v t e = unifier-first (VarTerm v) t [] ∙ (ap (λ r. by_rule r [] unifier) e ∙ ap (option_map (bound v t)) unifier_goes.none_left)

-- what the last one stands for
pub record IsBoundNext (s : Substitution) (before : List Binding) (b : Binding) : Type 0 where
  pub free : value_of s b.var ≡ VarTerm b.var
  pub apart : occurs b.var (resolve s b.value) ≡ false
  pub makes : (new : Substitution) → IsComposition s ((b.var, resolve s b.value) ∷ []) new → IsMadeBy (before ++ b ∷ []) new

same_resolved : (s u : Substitution) → ((n : ℕ) → value_of u n ≡ value_of s n) → (t : Term) → resolve u t ≡ resolve s t
same_resolved s u h t = apply-same (value_of u) (value_of s) h t

-- a variable is bound to an older one, also once bindings are applied
older_now : (s : Substitution) (v : ℕ) (t : Term) → KeepsOlder (Some s) → is_bound_back v t ≡ true → (w : ℕ) → resolve s t ≡ VarTerm w → w < v
older_now s v (VarTerm k) old back w e = let le : w ≤ k = old k w e in let lt : nat_lt k v ≡ true = back in grind (arith, nat_tests)
older_now s v (IntTerm z) old back w e = absurd cc
older_now s v (AtomTerm a) old back w e = absurd cc
older_now s v (Compound f ts) old back w e = absurd cc

module _ (next : ℕ) (before : List Binding) (b : Binding) (s u : Substitution) (h : IsLastSettled next before b) (made : IsMadeBy before s)
    (is : unifier (binding_equations before) ≡ Some u) (same : (n : ℕ) → value_of u n ≡ value_of s n) where
  here : Term
  here = resolve s b.value

  free_now : value_of s b.var ≡ VarTerm b.var
  free_now = made.free b.var h.free

  one : Equations
  one = (VarTerm b.var, here) ∷ []

  resolved : resolved_equations u (equation_of b ∷ []) ≡ one
  unfolding here one
  resolved =
      let left : value_of u b.var ≡ VarTerm b.var = same b.var ∙ free_now in
      let right : resolve u b.value ≡ resolve s b.value = same_resolved s u same b.value in
      cc

  whole : unifier (binding_equations before ++ equation_of b ∷ []) ≡ option_map (after u) (unifier one)
  whole = front_first (binding_equations before) (equation_of b ∷ []) ∙ (ap (λ o. further_unified o (equation_of b ∷ [])) is
      ∙ ap (λ es. option_map (after u) (unifier es)) resolved)

  some_one : is_some (unifier one) ≡ true
  some_one = some_mapped (unifier one) (sym (ap is_some whole) ∙ h.unified)
    where
      some_mapped : (o : Option Substitution) → is_some (option_map (after u) o) ≡ true → is_some o ≡ true
      some_mapped None e = e
      some_mapped (Some t) e = refl

  kept_older : KeepsOlder (Some s)
  kept_older n m e = subst KeepsOlder is (keeps_older (binding_equations before)) n m (same n ∙ e)

  back : is_bound_back b.var b.value ≡ true
  back = (both _ _ (both _ _ h.binding).1).1

  replaced : IsReplacing b.var here
  unfolding here one
  replaced = replacing b.var here (older_now s b.var b.value kept_older back) some_one

  all_unified : unifier (binding_equations before ++ equation_of b ∷ []) ≡ Some (after u ((b.var, resolve [] here) ∷ []))
  unfolding one
  all_unified = whole ∙ ap (option_map (after u)) (one_bound b.var here replaced.rule_is)

  module _ (new : Substitution) (composed : IsComposition s ((b.var, here) ∷ []) new) where
    new_value : (n : ℕ) → value_of (after u ((b.var, resolve [] here) ∷ [])) n ≡ value_of new n
    new_value n =
        resolve-after u ((b.var, resolve [] here) ∷ []) (VarTerm n)
        ∙ (ap (λ t. resolve ((b.var, t) ∷ []) (value_of u n)) (resolve-nothing here) ∙ (ap (resolve ((b.var, here) ∷ [])) (same n) ∙ sym (composed n)))

    unified_now : SameValues (unifier (binding_equations (before ++ b ∷ []))) (Some new)
    unified_now =
        subst (λ o. SameValues o (Some new)) (sym (ap unifier (equations-append before (b ∷ [])) ∙ all_unified)) new_value

    still_free : (v : ℕ) → binds_variable v (before ++ b ∷ []) ≡ false → value_of new v ≡ VarTerm v
    still_free v e =
        let none : (binds_variable v before || ((b.var == v) || false)) ≡ false = sym (list_any-append (λ d. d.var == v) before (b ∷ [])) ∙ e in
        let was : value_of s v ≡ VarTerm v = made.free v (or-left (binds_variable v before) ((b.var == v) || false) none) in
        let other : (b.var == v) ≡ false = or-left (b.var == v) false (or-right (binds_variable v before) ((b.var == v) || false) none) in
        composed v ∙ (ap (resolve ((b.var, here) ∷ [])) was ∙ ap (λ x. cond x here (VarTerm v)) other)

    made_now : IsMadeBy (before ++ b ∷ []) new
    made_now = record { unified = unified_now; free = still_free }

  next_bound : IsBoundNext s before b
  unfolding here
  next_bound = record { free = free_now; apart = replaced.apart; makes = made_now }

by_unifier : (next : ℕ) (before : List Binding) (b : Binding) (s : Substitution) → IsLastSettled next before b → IsMadeBy before s
    → (o : Option Substitution) → unifier (binding_equations before) ≡ o → SameValues o (Some s) → IsBoundNext s before b
by_unifier next before b s h made None is same = absurd same
by_unifier next before b s h made (Some u) is same = next_bound next before b s u h made is same

pub bound_next : (next : ℕ) (before : List Binding) (b : Binding) (s : Substitution) → IsMadeBy before s → are_bindings_settled next (before ++ b ∷ []) ≡ true
    → IsBoundNext s before b
bound_next next before b s made settled =
    by_unifier next before b s (last_settled next before b settled) made (unifier (binding_equations before)) refl made.unified

pub nothing_made : IsMadeBy [] []
nothing_made = record { unified = subst (λ o. SameValues o (Some [])) (sym unifier_goes.none_left) (λ n. refl); free = λ v e. refl }
