-- Equations in front are unified first.
use Rattle.std.proofs.Common.{◌≡◌, ℕ, Bool, true, false, cond, [], ◌∷◌, ◌++◌, ◌==◌, Option, Some, None, refl, sym, ap, ◌∙◌, append_assoc}
use Rattle.std.specs.Option.{option_map}
use Rattle.au_term.specs.Term.{Term, VarTerm, IntTerm, AtomTerm, Compound, Terms, end, more}
use Rattle.au_model.specs.Terms.Substitutions.{Substitution, apply, apply_all, value_of, resolve, only}
use Rattle.au_model.specs.Terms.Unifier.{Equations, Rule, Dropped, Replaced, Opened, Clash, rule, replace, bound, by_rule, unifier}
use Rattle.au_model.specs.Terms.EquationsInTurn.{after, resolved_equations, further_unified, FrontFirst}
use Rattle.au_model.proofs.ApplyLemmas.{two, apply-same, apply-apply}
use Rattle.au_model.proofs.UnifierLemmas.{Next, by_rules, unifier-first, bound_first}

-- a substitution of nothing
mutual
  apply-nothing : (t : Term) → apply (value_of []) t ≡ t
  apply-nothing (VarTerm n) = refl
  apply-nothing (IntTerm z) = refl
  apply-nothing (AtomTerm a) = refl
  apply-nothing (Compound f ts) = ap (Compound f) (apply_all-nothing ts)

  apply_all-nothing : (ts : Terms) → apply_all (value_of []) ts ≡ ts
  apply_all-nothing end = refl
  apply_all-nothing (more t ts) = two (apply-nothing t) (apply_all-nothing ts)

pub resolve-nothing : (t : Term) → resolve [] t ≡ t
resolve-nothing t = apply-nothing t

pair_same : (a b c d : Term) → a ≡ c → b ≡ d → ◌≡◌ {A = Term × Term} (a, b) (c, d)
pair_same a b c d h k = cc

equations-nothing : (eqs : Equations) → resolved_equations [] eqs ≡ eqs
equations-nothing [] = refl
equations-nothing (e ∷ eqs) = ap (λ q. q ∷ resolved_equations [] eqs) (pair_same _ _ e.0 e.1 (apply-nothing e.0) (apply-nothing e.1)) ∙ ap (λ es. e ∷ es) (equations-nothing eqs)

-- one substitution after the other
value_of-after : (s u : Substitution) (n : ℕ) → value_of (after s u) n ≡ apply (value_of u) (value_of s n)
value_of-after [] u n = refl
value_of-after ((m, t) ∷ s) u n = go (m == n) (value_of-after s u n)
  where
    go : (b : Bool) → value_of (after s u) n ≡ apply (value_of u) (value_of s n) → cond b (resolve u t) (value_of (after s u) n) ≡ apply (value_of u) (cond b t (value_of s n))
    go true h = refl
    go false h = h

pub resolve-after : (s u : Substitution) (t : Term) → resolve (after s u) t ≡ resolve u (resolve s t)
resolve-after s u t = apply-same _ _ (value_of-after s u) t ∙ sym (apply-apply (value_of u) (value_of s) t)

bound-after : (x : ℕ) (t : Term) (s : Substitution) (o : Option Substitution) → option_map (bound x t) (option_map (after s) o) ≡ option_map (after (bound x t s)) o
bound-after x t s None = refl
bound-after x t s (Some u) = ap (λ v. Some ((x, v) ∷ after s u)) (resolve-after s u t)

replaced-resolved : (x : ℕ) (t : Term) (s : Substitution) (eqs : Equations) → resolved_equations s (replace x t eqs) ≡ resolved_equations (bound x t s) eqs
replaced-resolved x t s [] = refl
replaced-resolved x t s (e ∷ eqs) =
    ap (λ q. q ∷ resolved_equations s (replace x t eqs)) (pair_same _ _ _ _ (sym (bound_first s x t e.0)) (sym (bound_first s x t e.1))) ∙ ap (λ es. (resolve (bound x t s) e.0, resolve (bound x t s) e.1) ∷ es) (replaced-resolved x t s eqs)

replace-append : (x : ℕ) (t : Term) (es eqs : Equations) → replace x t (es ++ eqs) ≡ replace x t es ++ replace x t eqs
replace-append x t [] eqs = refl
replace-append x t (e ∷ es) eqs = ap (λ rest. (apply (only x t) e.0, apply (only x t) e.1) ∷ rest) (replace-append x t es eqs)

-- equations in front
First : Equations → Type 0
First es = (eqs : Equations) → unifier (es ++ eqs) ≡ further_unified (unifier es) eqs

bound_further : (x : ℕ) (t : Term) (o : Option Substitution) (eqs : Equations) → option_map (bound x t) (further_unified o (replace x t eqs)) ≡ further_unified (option_map (bound x t) o) eqs
bound_further x t None eqs = refl
bound_further x t (Some s) eqs = bound-after x t s (unifier (resolved_equations s (replace x t eqs))) ∙ ap (λ es. option_map (after (bound x t s)) (unifier es)) (replaced-resolved x t s eqs)

first_by : (es eqs : Equations) (t : Rule) → Next First t es → by_rule t (es ++ eqs) unifier ≡ further_unified (by_rule t es unifier) eqs
unfolding First
first_by es eqs Dropped h = h eqs
first_by es eqs (Replaced x t) h = ap (λ q. option_map (bound x t) (unifier q)) (replace-append x t es eqs) ∙ (ap (option_map (bound x t)) (h (replace x t eqs)) ∙ bound_further x t (unifier (replace x t es)) eqs)
first_by es eqs (Opened new) h = ap unifier (sym (append_assoc new es eqs)) ∙ h eqs
first_by es eqs Clash h = refl

none_first : First []
unfolding First unifier
none_first eqs = nothing_more (unifier eqs) ∙ ap (λ es. option_map (after []) (unifier es)) (sym (equations-nothing eqs))
  where
    nothing_more : (o : Option Substitution) → o ≡ option_map (after []) o
    nothing_more None = refl
    nothing_more (Some s) = refl

more_first : (a b : Term) (es : Equations) → Next First (rule a b) es → First ((a, b) ∷ es)
unfolding First
more_first a b es h eqs = unifier-first a b (es ++ eqs) ∙ (first_by es eqs (rule a b) h ∙ ap (λ o. further_unified o eqs) (sym (unifier-first a b es)))

pub front_first : FrontFirst
unfolding First
front_first = by_rules First none_first more_first
