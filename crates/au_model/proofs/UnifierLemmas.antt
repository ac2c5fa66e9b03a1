-- The laws of the unifier.
use Rattle.std.proofs.Common.{◌≡◌, ◌⊎◌, inl, inr, ℕ, zero, suc, ◌+◌, ◌<◌, ◌≤◌, Bool, true, false, ◌||◌, cond, [], ◌∷◌, ◌++◌, Option, Some, None, refl, sym, ap, ◌∙◌, subst, arith}
use Rattle.std.proofs.lemmas.Bool.{eqb-true, eq-eqb}
use Rattle.std.specs.Option.{option_map}
use Rattle.au_term.specs.Term.{Term, VarTerm, IntTerm, AtomTerm, Compound, Terms, end, more, count, var_bound, all_bound}
use Rattle.au_model.specs.Terms.Substitutions.{Substitution, apply, apply_all, value_of, only, occurs, occurs_in}
use Rattle.au_model.specs.Terms.Unifier.{Equations, Rule, Dropped, Replaced, Opened, Clash, rule, by_rule, pairs, replace, bound, solve, unifier, equations_size, equations_bound, steps_for}
use Rattle.au_model.specs.Terms.MostGeneral.{Unifies, IsUnifierAnswer, GoesByRules}
use Rattle.au_model.proofs.ApplyLemmas.{either, two, only_first, after_only, value_of-bound, apply-same, apply-apply, apply-only_absent}
use Rattle.au_model.proofs.UnifierRuleLemmas.{Says, rule_says, Binds, Opens}
use Rattle.au_model.proofs.UnifierMeasureLemmas.{appears, tally, work, AllBelow, Less, less_dropped, less_bound, less_opened, steps-variables, flag}

-- what holds after a rule
abbrev pub Next : (Equations → Type 0) → Rule → Equations → Type 0
Next P Dropped eqs = P eqs
Next P (Replaced x t) eqs = P (replace x t eqs)
Next P (Opened es) eqs = P (es ++ eqs)
Next P Clash eqs = Unit {0}

steps_pos : (v n : ℕ) → 0 < steps_for v n
steps_pos zero n = omega arith
steps_pos (suc v) n = omega arith

-- each rule leaves less to do
next_holds : (P : Equations → Type 0) (b : ℕ) (l r : Term) (eqs : Equations) → AllBelow b ((l, r) ∷ eqs) → ((new : Equations) → Less b new ((l, r) ∷ eqs) → P new) → (t : Rule) → Says l r t → Next P t eqs
next_holds P b l r eqs h go Dropped s = go eqs (less_dropped b l r eqs h)
next_holds P b l r eqs h go (Replaced x t) s = go (replace x t eqs) (less_bound b l r eqs x t h s)
next_holds P b l r eqs h go (Opened es) s = go (es ++ eqs) (less_opened b l r eqs es h s)
next_holds P b l r eqs h go Clash s = tt

mutual
  below_bound : (x : ℕ) (t : Term) → occurs x t ≡ true → x < var_bound t
  below_bound x (VarTerm n) h = let e = eqb-true x n h in omega arith
  below_bound x (IntTerm z) h = cc
  below_bound x (AtomTerm a) h = cc
  below_bound x (Compound f ts) h = below_all x ts h

  below_all : (x : ℕ) (ts : Terms) → occurs_in x ts ≡ true → x < all_bound ts
  below_all x end h = cc
  below_all x (more t ts) h = elim (either (occurs x t) (occurs_in x ts) h) [ inl k ↦ omega (arith, below_bound x t k) | inr k ↦ omega (arith, below_all x ts k) ]

pub all_below : (eqs : Equations) → AllBelow (equations_bound eqs) eqs
all_below [] x h = cc
all_below (e ∷ eqs) x h =
    elim (either (occurs x e.0 || occurs x e.1) (appears x eqs) h) [
      | inl k ↦ elim (either (occurs x e.0) (occurs x e.1) k) [ inl l ↦ omega (arith, below_bound x e.0 l) | inr l ↦ omega (arith, below_bound x e.1 l) ]
      | inr k ↦ omega (arith, all_below eqs x k)
    ]

-- induction along the rules
module _ (P : Equations → Type 0) (none : P []) (one : (a b : Term) (eqs : Equations) → Next P (rule a b) eqs → P ((a, b) ∷ eqs)) where
  by_work : (n b : ℕ) (eqs : Equations) → AllBelow b eqs → work b eqs ≤ n → P eqs
  by_work n b [] h k = none
  by_work zero b ((l, r) ∷ eqs) h k = absurd (omega (arith, steps_pos (tally b ((l, r) ∷ eqs)) (equations_size ((l, r) ∷ eqs))))
  by_work (suc n) b ((l, r) ∷ eqs) h k =
      one l r eqs (next_holds P b l r eqs h (λ new f. by_work n b new f.below (omega (arith, f.less))) (rule l r) (rule_says l r))

  pub by_rules : (eqs : Equations) → P eqs
  by_rules eqs = by_work (work (equations_bound eqs) eqs) (equations_bound eqs) eqs (all_below eqs) (omega arith)

-- enough rules give what more give
same_result : (t : Rule) (eqs : Equations) (f g : Equations → Option Substitution) → Next (λ new. f new ≡ g new) t eqs → by_rule t eqs f ≡ by_rule t eqs g
same_result Dropped eqs f g h = h
same_result (Replaced x t) eqs f g h = ap (option_map (bound x t)) h
same_result (Opened es) eqs f g h = h
same_result Clash eqs f g h = refl

stable : (m n b : ℕ) (eqs : Equations) → AllBelow b eqs → work b eqs ≤ m → work b eqs ≤ n → solve m eqs ≡ solve n eqs
stable zero n b eqs h k l = absurd (omega (arith, steps_pos (tally b eqs) (equations_size eqs)))
stable (suc m) zero b eqs h k l = absurd (omega (arith, steps_pos (tally b eqs) (equations_size eqs)))
stable (suc m) (suc n) b [] h k l = refl
stable (suc m) (suc n) b ((x, y) ∷ eqs) h k l =
    same_result (rule x y) eqs (solve m) (solve n) (next_holds (λ new. solve m new ≡ solve n new) b x y eqs h (λ new f. stable m n b new f.below (omega (arith, f.less)) (omega (arith, f.less))) (rule x y) (rule_says x y))

tally-below : (b : ℕ) (eqs : Equations) → tally b eqs ≤ b
tally-below zero eqs = omega arith
tally-below (suc b) eqs = omega (arith, tally-below b eqs, flag-le (appears b eqs))
  where
    flag-le : (t : Bool) → flag t ≤ 1
    flag-le true = omega arith
    flag-le false = omega arith

-- no more variables are counted than are below the bound of those that appear
tally-within : (b c : ℕ) (eqs : Equations) → AllBelow c eqs → tally b eqs ≤ c
tally-within zero c eqs h = omega arith
tally-within (suc b) c eqs h = go (tally-within b c eqs h) (tally-below b eqs) (appears b eqs) refl
  where
    go : tally b eqs ≤ c → tally b eqs ≤ b → (t : Bool) → appears b eqs ≡ t → flag (appears b eqs) + tally b eqs ≤ c
    go k l true e = let q = ap flag e in omega (arith, h b e)
    go k l false e = let q = ap flag e in omega arith

enough : (b : ℕ) (eqs : Equations) → work b eqs ≤ steps_for (equations_bound eqs) (equations_size eqs)
enough b eqs = steps-variables (tally b eqs) (equations_bound eqs) (equations_size eqs) (tally-within b (equations_bound eqs) eqs (all_below eqs))

one_rule : (n b : ℕ) (l r : Term) (eqs : Equations) → AllBelow b ((l, r) ∷ eqs) → work b ((l, r) ∷ eqs) ≤ n → solve n ((l, r) ∷ eqs) ≡ by_rule (rule l r) eqs unifier
unfolding unifier
one_rule zero b l r eqs h k = absurd (omega (arith, steps_pos (tally b ((l, r) ∷ eqs)) (equations_size ((l, r) ∷ eqs))))
one_rule (suc n) b l r eqs h k =
    same_result (rule l r) eqs (solve n) unifier (next_holds (λ new. solve n new ≡ unifier new) b l r eqs h (λ new f. stable n _ b new f.below (omega (arith, f.less)) (enough b new)) (rule l r) (rule_says l r))

pub unifier-first : (a b : Term) (eqs : Equations) → unifier ((a, b) ∷ eqs) ≡ by_rule (rule a b) eqs unifier
unfolding unifier
unifier-first a b eqs = one_rule _ (equations_bound ((a, b) ∷ eqs)) a b eqs (all_below ((a, b) ∷ eqs)) (enough (equations_bound ((a, b) ∷ eqs)) ((a, b) ∷ eqs))

pub unifier_goes : GoesByRules
unfolding unifier
unifier_goes = record { none_left = refl; first = unifier-first }

-- most general
Unifies-append : (f : ℕ → Term) (es eqs : Equations) → Unifies f (es ++ eqs) → Unifies f es × Unifies f eqs
Unifies-append f [] eqs h = (tt, h)
Unifies-append f (e ∷ es) eqs h = let k = Unifies-append f es eqs h.1 in ((h.0, k.0), k.1)

append-Unifies : (f : ℕ → Term) (es eqs : Equations) → Unifies f es → Unifies f eqs → Unifies f (es ++ eqs)
append-Unifies f [] eqs h k = k
append-Unifies f (e ∷ es) eqs h k = (h.0, append-Unifies f es eqs h.1 k)

Unifies-pairs : (f : ℕ → Term) (ts us : Terms) → count ts ≡ count us → Unifies f (pairs ts us) → apply_all f ts ≡ apply_all f us
Unifies-pairs f end end c h = refl
Unifies-pairs f end (more u us) c h = absurd (omega arith)
Unifies-pairs f (more t ts) end c h = absurd (omega arith)
Unifies-pairs f (more t ts) (more u us) c h = two h.0 (Unifies-pairs f ts us (omega arith) h.1)

pairs-Unifies : (f : ℕ → Term) (ts us : Terms) → apply_all f ts ≡ apply_all f us → Unifies f (pairs ts us)
pairs-Unifies f end us h = tt
pairs-Unifies f (more t ts) end h = tt
pairs-Unifies f (more t ts) (more u us) h = (cc, pairs-Unifies f ts us cc)

Unifies-replace : (f : ℕ → Term) (x : ℕ) (t : Term) (eqs : Equations) → f x ≡ apply f t → Unifies f eqs → Unifies f (replace x t eqs)
Unifies-replace f x t [] e h = tt
Unifies-replace f x t (q ∷ eqs) e h = (after_only f x t e q.0 ∙ (h.0 ∙ sym (after_only f x t e q.1)), Unifies-replace f x t eqs e h.1)

-- the substitution after x is bound
pub bound_first : (s : Substitution) (x : ℕ) (t u : Term) → apply (value_of (bound x t s)) u ≡ apply (value_of s) (apply (only x t) u)
bound_first s x t u = apply-same _ _ (value_of-bound s x t) u ∙ sym (apply-apply (value_of s) (only x t) u)

replace-Unifies : (s : Substitution) (x : ℕ) (t : Term) (eqs : Equations) → Unifies (value_of s) (replace x t eqs) → Unifies (value_of (bound x t s)) eqs
replace-Unifies s x t [] h = tt
replace-Unifies s x t (q ∷ eqs) h = (bound_first s x t q.0 ∙ (h.0 ∙ sym (bound_first s x t q.1)), replace-Unifies s x t eqs h.1)

-- both sides of the equation that is bound
bound_sides : (s : Substitution) (x : ℕ) (t : Term) → occurs x t ≡ false → apply (value_of (bound x t s)) (VarTerm x) ≡ apply (value_of (bound x t s)) t
bound_sides s x t h =
    bound_first s x t (VarTerm x) ∙ (ap (λ b. apply (value_of s) (cond b t (VarTerm x))) (eq-eqb x x refl) ∙ (ap (apply (value_of s)) (sym (apply-only_absent x t t h)) ∙ sym (bound_first s x t t)))

side : (a b : Term) (f : ℕ → Term) (x : ℕ) (t : Term) → ((a ≡ VarTerm x) × (b ≡ t)) ⊎ ((a ≡ t) × (b ≡ VarTerm x)) → apply f a ≡ apply f b → f x ≡ apply f t
side a b f x t (inl p) h = sym (ap (apply f) p.0) ∙ (h ∙ ap (apply f) p.1)
side a b f x t (inr p) h = sym (ap (apply f) p.1) ∙ (sym h ∙ ap (apply f) p.0)

unside : (a b : Term) (f : ℕ → Term) (x : ℕ) (t : Term) → ((a ≡ VarTerm x) × (b ≡ t)) ⊎ ((a ≡ t) × (b ≡ VarTerm x)) → apply f (VarTerm x) ≡ apply f t → apply f a ≡ apply f b
unside a b f x t (inl p) h = ap (apply f) p.0 ∙ (h ∙ sym (ap (apply f) p.1))
unside a b f x t (inr p) h = ap (apply f) p.0 ∙ (sym h ∙ sym (ap (apply f) p.1))

dropped_answers : (a b : Term) (eqs : Equations) (o : Option Substitution) → a ≡ b → IsUnifierAnswer o eqs → IsUnifierAnswer o ((a, b) ∷ eqs)
dropped_answers a b eqs (Some s) e h = record { unifies = (ap (apply (value_of s)) e, h.unifies); general = λ f u n. h.general f u.1 n }
dropped_answers a b eqs None e h = λ f u. h f u.1

bound_answers : (a b : Term) (eqs : Equations) (x : ℕ) (t : Term) (o : Option Substitution) → Binds a b x t → IsUnifierAnswer o (replace x t eqs) → IsUnifierAnswer (option_map (bound x t) o) ((a, b) ∷ eqs)
bound_answers a b eqs x t (Some s) k h = record {
  unifies = (unside a b _ x t k.sides (bound_sides s x t k.absent), replace-Unifies s x t eqs h.unifies);
  general = λ f u n.
      let e = side a b f x t k.sides u.0 in
      let g = h.general f (Unifies-replace f x t eqs e u.1) in
      ap (apply f) (value_of-bound s x t n) ∙ (apply-apply f (value_of s) (only x t n) ∙ (apply-same _ _ g (only x t n) ∙ only_first f x t e n));
}
bound_answers a b eqs x t None k h = λ f u. h f (Unifies-replace f x t eqs (side a b f x t k.sides u.0) u.1)

opened_same : (a b : Term) (es : Equations) (f : ℕ → Term) → Opens a b es → Unifies f es → apply f a ≡ apply f b
opened_same a b es f k h =
    ap (apply f) k.a_is ∙ (ap (Compound k.name) (Unifies-pairs f k.left k.right k.as_many (subst (Unifies f) k.es_are h)) ∙ sym (ap (apply f) k.b_is))

same_opened : (a b : Term) (es : Equations) (f : ℕ → Term) → Opens a b es → apply f a ≡ apply f b → Unifies f es
same_opened a b es f k h =
    let e : Compound k.name (apply_all f k.left) ≡ Compound k.name (apply_all f k.right) = sym (ap (apply f) k.a_is) ∙ (h ∙ ap (apply f) k.b_is) in
    subst (Unifies f) (sym k.es_are) (pairs-Unifies f k.left k.right cc)

opened_answers : (a b : Term) (eqs es : Equations) (o : Option Substitution) → Opens a b es → IsUnifierAnswer o (es ++ eqs) → IsUnifierAnswer o ((a, b) ∷ eqs)
opened_answers a b eqs es (Some s) k h =
    let parts = Unifies-append (value_of s) es eqs h.unifies in
    record {
      unifies = (opened_same a b es (value_of s) k parts.0, parts.1);
      general = λ f u n. h.general f (append-Unifies f es eqs (same_opened a b es f k u.0) u.1) n;
    }
opened_answers a b eqs es None k h = λ f u. h f (append-Unifies f es eqs (same_opened a b es f k u.0) u.1)

answers_by : (a b : Term) (eqs : Equations) (t : Rule) → Says a b t → Next (λ new. IsUnifierAnswer (unifier new) new) t eqs → IsUnifierAnswer (by_rule t eqs unifier) ((a, b) ∷ eqs)
answers_by a b eqs Dropped s h = dropped_answers a b eqs (unifier eqs) s h
answers_by a b eqs (Replaced x t) s h = bound_answers a b eqs x t (unifier (replace x t eqs)) s h
answers_by a b eqs (Opened es) s h = opened_answers a b eqs es (unifier (es ++ eqs)) s h
answers_by a b eqs Clash s h = λ f u. s f u.0

none_answers : IsUnifierAnswer (unifier []) []
unfolding unifier
none_answers = record { unifies = tt; general = λ f u n. refl }

-- the unifier is most general, and none is given only where none exists
pub unifier_answers : (eqs : Equations) → IsUnifierAnswer (unifier eqs) eqs
unifier_answers = by_rules (λ eqs. IsUnifierAnswer (unifier eqs) eqs) none_answers (λ a b eqs h. subst (λ o. IsUnifierAnswer o ((a, b) ∷ eqs)) (sym (unifier-first a b eqs)) (answers_by a b eqs (rule a b) (rule_says a b) h))
