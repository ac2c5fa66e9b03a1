-- The order of the equations does not matter.
use Rattle.std.proofs.Common.{◌≡◌, ℕ, ◌≤◌, Bool, true, false, cond, Option, Some, None, ◌==◌, refl, sym, ap, ◌∙◌, subst, arith}
use Rattle.std.proofs.lemmas.Bool.{eqb-true}
use Rattle.std.specs.Option.{option_map}
use Rattle.au_term.specs.Term.{Term, VarTerm, IntTerm, AtomTerm, Compound, Terms, end, more}
use Rattle.au_model.specs.Terms.Substitutions.{Substitution, apply, apply_all, value_of}
use Rattle.au_model.specs.Terms.Unifier.{Equations, Rule, Dropped, Replaced, Opened, Clash, rule, by_rule, replace, bound, unifier}
use Rattle.au_model.specs.Terms.MostGeneral.{Unifies, IsMostGeneral, IsUnifierAnswer, SameValues, SameUnifiers}
use Rattle.au_model.proofs.ApplyLemmas.{two, value_of-bound}
use Rattle.au_model.proofs.UnifierRuleLemmas.{Says, rule_says, Binds}
use Rattle.au_model.proofs.UnifierLemmas.{Next, by_rules, unifier-first, unifier_answers}

-- a variable stands for no younger one
abbrev pub KeepsOlder : Option Substitution → Type 0
KeepsOlder None = Unit {0}
KeepsOlder (Some s) = (n m : ℕ) → value_of s n ≡ VarTerm m → m ≤ n

bound_keeps_one : (a b : Term) (x : ℕ) (t : Term) (s : Substitution) → Binds a b x t → KeepsOlder (Some s) → (n m : ℕ) → value_of (bound x t s) n ≡ VarTerm m → m ≤ n
bound_keeps_one a b x t s k h n m e = go (x == n) refl (sym (value_of-bound s x t n) ∙ e)
  where
    from_term : (u : Term) → u ≡ t → apply (value_of s) u ≡ VarTerm m → m ≤ x
    from_term (VarTerm l) q r = let old = k.older l (sym q) in omega (arith, h l m r)
    from_term (IntTerm z) q r = cc
    from_term (AtomTerm z) q r = cc
    from_term (Compound z ts) q r = cc

    go : (c : Bool) → (x == n) ≡ c → apply (value_of s) (cond c t (VarTerm n)) ≡ VarTerm m → m ≤ n
    go true q r = let same : x ≡ n = eqb-true x n q in let le = from_term t refl r in omega arith
    go false q r = h n m r

bound_keeps : (a b : Term) (x : ℕ) (t : Term) (o : Option Substitution) → Binds a b x t → KeepsOlder o → KeepsOlder (option_map (bound x t) o)
bound_keeps a b x t None k h = tt
bound_keeps a b x t (Some s) k h = λ n m e. bound_keeps_one a b x t s k h n m e

keeps_by : (a b : Term) (eqs : Equations) (t : Rule) → Says a b t → Next (λ new. KeepsOlder (unifier new)) t eqs → KeepsOlder (by_rule t eqs unifier)
keeps_by a b eqs Dropped s h = h
keeps_by a b eqs (Replaced x t) s h = bound_keeps a b x t (unifier (replace x t eqs)) s h
keeps_by a b eqs (Opened es) s h = h
keeps_by a b eqs Clash s h = tt

none_keeps : (n m : ℕ) → VarTerm n ≡ VarTerm m → m ≤ n
none_keeps n m e = let q : n ≡ m = cc in omega arith

pub keeps_older : (eqs : Equations) → KeepsOlder (unifier eqs)
unfolding unifier
keeps_older = by_rules (λ eqs. KeepsOlder (unifier eqs)) none_keeps (λ a b eqs h. subst KeepsOlder (sym (unifier-first a b eqs)) (keeps_by a b eqs (rule a b) (rule_says a b) h))

variable : (f g : ℕ → Term) → ((n m : ℕ) → f n ≡ VarTerm m → m ≤ n) → ((n m : ℕ) → g n ≡ VarTerm m → m ≤ n) → (n : ℕ) (t : Term) → g n ≡ t → apply f t ≡ VarTerm n → t ≡ VarTerm n
variable f g f_old g_old n (VarTerm k) e h = let one = f_old k n h in let other = g_old n k e in ap VarTerm (omega arith)
variable f g f_old g_old n (IntTerm z) e h = cc
variable f g f_old g_old n (AtomTerm z) e h = cc
variable f g f_old g_old n (Compound z ts) e h = cc

-- two substitutions that each go through the other, and prefer older variables, are one
module _ (f g : ℕ → Term) (f_old : (n m : ℕ) → f n ≡ VarTerm m → m ≤ n) (g_old : (n m : ℕ) → g n ≡ VarTerm m → m ≤ n) where
  mutual
    one_term : (t : Term) → apply f (apply g t) ≡ t → apply g t ≡ t
    one_term (VarTerm n) h = variable f g f_old g_old n (g n) refl h
    one_term (IntTerm z) h = refl
    one_term (AtomTerm a) h = refl
    one_term (Compound name ts) h = ap (Compound name) (one_list ts cc)

    one_list : (ts : Terms) → apply_all f (apply_all g ts) ≡ ts → apply_all g ts ≡ ts
    one_list end h = refl
    one_list (more t ts) h = two (one_term t cc) (one_list ts cc)

-- equations with the same unifiers resolve each term to the same
same_value : (eqs es : Equations) (s t : Substitution) → IsMostGeneral s eqs → IsMostGeneral t es → KeepsOlder (Some s) → KeepsOlder (Some t) → ((f : ℕ → Term) → Unifies f eqs → Unifies f es) → ((f : ℕ → Term) → Unifies f es → Unifies f eqs) → (n : ℕ) → value_of s n ≡ value_of t n
same_value eqs es s t p q ks kt there back n =
    let f = value_of s in
    let g = value_of t in
    let through_g : apply f (g n) ≡ f n = q.general f (there f p.unifies) n in
    let through_f : apply g (f n) ≡ g n = p.general g (back g q.unifies) n in
    let round : apply f (apply g (f n)) ≡ f n = ap (apply f) through_f ∙ through_g in
    sym (sym through_f ∙ one_term f g ks kt (f n) round)

both_values : (eqs es : Equations) (o r : Option Substitution) → IsUnifierAnswer o eqs → IsUnifierAnswer r es → KeepsOlder o → KeepsOlder r → ((f : ℕ → Term) → Unifies f eqs → Unifies f es) → ((f : ℕ → Term) → Unifies f es → Unifies f eqs) → SameValues o r
both_values eqs es None None p q ks kt there back = tt
both_values eqs es None (Some t) p q ks kt there back = p (value_of t) (back (value_of t) q.unifies)
both_values eqs es (Some s) None p q ks kt there back = q (value_of s) (there (value_of s) p.unifies)
both_values eqs es (Some s) (Some t) p q ks kt there back = same_value eqs es s t p q ks kt there back

pub order_is_free : (eqs es : Equations) → SameUnifiers eqs es → SameValues (unifier eqs) (unifier es)
order_is_free eqs es h = both_values eqs es (unifier eqs) (unifier es) (unifier_answers eqs) (unifier_answers es) (keeps_older eqs) (keeps_older es) h.there h.back
