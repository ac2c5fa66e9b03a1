-- What each rule says.
use Rattle.std.proofs.Common.{◌≡◌, ◌⊎◌, inl, inr, ℕ, ℤ, suc, ◌<◌, Bool, true, false, cond, List, ◌==◌, refl, sym, ap, ◌∙◌, ◌&&◌, nat_eq, nat_lt, arith}
use Rattle.std.specs.Ordering.{int_eq}
use Rattle.std.specs.Cmp.Lexicographic.{pointwise, same_text, other_text}
use Rattle.std.proofs.lemmas.Bool.Decides.{Decides-int_eq, nat_tests}
use Rattle.std.proofs.lemmas.Bool.{eqb-true, eq-eqb}
use Rattle.au_term.specs.Term.{Term, VarTerm, IntTerm, AtomTerm, Compound, Terms, end, more, count}
use Rattle.au_model.specs.Terms.Substitutions.{apply, apply_all, occurs, occurs_in}
use Rattle.au_model.specs.Terms.Unifier.{Equations, Rule, Dropped, Replaced, Opened, Clash, rule, pairs, size}
use Rattle.au_model.proofs.ApplyLemmas.{size_all-occurs}
use Rattle.au_term.proofs.LogicLemmas.{numbers_turned as turned, both}

pub record Binds (a b : Term) (x : ℕ) (t : Term) : Type 0 where
  pub sides : ((a ≡ VarTerm x) × (b ≡ t)) ⊎ ((a ≡ t) × (b ≡ VarTerm x))
  pub absent : occurs x t ≡ false
  -- a variable is replaced by one with a smaller number alone
  pub older : (m : ℕ) → t ≡ VarTerm m → m < x

pub record Opens (a b : Term) (es : Equations) : Type 0 where
  pub name : List ℕ
  pub left : Terms
  pub right : Terms
  pub a_is : a ≡ Compound name left
  pub b_is : b ≡ Compound name right
  pub as_many : count left ≡ count right
  pub es_are : es ≡ pairs left right

abbrev pub Says : Term → Term → Rule → Type 0
Says a b Dropped = a ≡ b
Says a b (Replaced x t) = Binds a b x t
Says a b (Opened es) = Opens a b es
Says a b Clash = (f : ℕ → Term) → apply f a ≡ apply f b → ⊥

module _ (a b : Term) where
  by_test : (t : Bool) → (t ≡ true → a ≡ b) → (t ≡ false → (f : ℕ → Term) → apply f a ≡ apply f b → ⊥) → Says a b (cond t Dropped Clash)
  by_test true same other = same refl
  by_test false same other = other refl

  by_name : (t : Bool) (es : Equations) → (t ≡ true → Opens a b es) → (t ≡ false → (f : ℕ → Term) → apply f a ≡ apply f b → ⊥) → Says a b (cond t (Opened es) Clash)
  by_name true es same other = same refl
  by_name false es same other = other refl

  by_occurs : (t : Bool) (x : ℕ) (u : Term) → ((m : ℕ) → u ≡ VarTerm m → m < x) → ((a ≡ VarTerm x) × (b ≡ u)) ⊎ ((a ≡ u) × (b ≡ VarTerm x)) → (t ≡ true → (f : ℕ → Term) → f x ≡ apply f u → ⊥) → occurs x u ≡ t → Says a b (cond t Clash (Replaced x u))
  by_occurs true x u old sides clash e = λ f h. clash refl f (elim sides [ inl p ↦ sym (ap (apply f) p.0) ∙ (h ∙ ap (apply f) p.1) | inr p ↦ sym (ap (apply f) p.1) ∙ (sym h ∙ ap (apply f) p.0) ])
  by_occurs false x u old sides clash e = record { sides = sides; absent = e; older = old }

too_large : (x : ℕ) (g : List ℕ) (us : Terms) (f : ℕ → Term) → occurs_in x us ≡ true → f x ≡ apply f (Compound g us) → ⊥
too_large x g us f o e = let k = size_all-occurs f x us o in let l = ap size e in omega arith

pub below : (m n : ℕ) → nat_lt m n ≡ true → m < n
below m n l = grind (arith, nat_tests)

above : (m n : ℕ) → (m == n) ≡ false → nat_lt m n ≡ false → n < m
above m n e l = grind (arith, nat_tests)

var_inside : {m n : ℕ} → VarTerm m ≡ VarTerm n → m ≡ n
var_inside e = cc

var_says : (m n : ℕ) (t u : Bool) → (m == n) ≡ t → nat_lt m n ≡ u → Says (VarTerm m) (VarTerm n) (cond t Dropped (cond u (Replaced n (VarTerm m)) (Replaced m (VarTerm n))))
var_says m n true u e l = ap VarTerm (eqb-true m n e)
var_says m n false true e l = record { sides = inr (refl, refl); absent = turned m n e; older = λ k q. let s = var_inside q in let lt : m < n = below m n l in omega arith }
var_says m n false false e l = record { sides = inl (refl, refl); absent = e; older = λ k q. let s = var_inside q in let lt : n < m = above m n e l in omega arith }

pub count-apply_all : (f : ℕ → Term) (ts : Terms) → count (apply_all f ts) ≡ count ts
count-apply_all f end = refl
count-apply_all f (more t ts) = ap suc (count-apply_all f ts)

ints_differ : (y z : ℤ) → int_eq y z ≡ false → IntTerm y ≡ IntTerm z → ⊥
ints_differ y z e h = let k : y ≡ z = cc in let t = (Decides-int_eq y z).1 k in cc

opened : (g h : List ℕ) (ts us : Terms) → (pointwise nat_eq g h ≡ true) × ((count ts == count us) ≡ true) → Opens (Compound g ts) (Compound h us) (pairs ts us)
opened g h ts us e =
    record { name = g; left = ts; right = us; a_is = refl; b_is = ap (λ n. Compound n us) (sym (same_text g h (sym e.0))); as_many = eqb-true _ _ e.1; es_are = refl }

shapes_differ : (g h : List ℕ) (ts us : Terms) (f : ℕ → Term) → (pointwise nat_eq g h && count ts == count us) ≡ false → Compound g (apply_all f ts) ≡ Compound h (apply_all f us) → ⊥
shapes_differ g h ts us f e k =
    let names : g ≡ h = cc in
    let rest : apply_all f ts ≡ apply_all f us = cc in
    let counts : count ts ≡ count us = omega (arith, ap count rest, count-apply_all f ts, count-apply_all f us) in
    go (pointwise nat_eq g h) refl names (count ts == count us) refl counts e
  where
    go : (t : Bool) → pointwise nat_eq g h ≡ t → g ≡ h → (u : Bool) → (count ts == count us) ≡ u → count ts ≡ count us → (t && u) ≡ false → ⊥
    go true p n true q c r = cc
    go true p n false q c r = let w = eq-eqb (count ts) (count us) c in cc
    go false p n u q c r = other_text g h (sym p) n

pub rule_says : (a b : Term) → Says a b (rule a b)
rule_says (VarTerm m) (VarTerm n) = var_says m n (m == n) (nat_lt m n) refl refl
rule_says (VarTerm m) (IntTerm z) = record { sides = inl (refl, refl); absent = refl; older = λ m e. cc }
rule_says (VarTerm m) (AtomTerm z) = record { sides = inl (refl, refl); absent = refl; older = λ m e. cc }
rule_says (VarTerm m) (Compound g us) = by_occurs (VarTerm m) (Compound g us) (occurs_in m us) m (Compound g us) (λ k e. cc) (inl (refl, refl)) (λ o f e. too_large m g us f o e) refl
rule_says (IntTerm y) (VarTerm n) = record { sides = inr (refl, refl); absent = refl; older = λ m e. cc }
rule_says (IntTerm y) (IntTerm z) = by_test (IntTerm y) (IntTerm z) (int_eq y z) (λ e. ap IntTerm ((Decides-int_eq y z).0 e)) (λ e f h. ints_differ y z e h)
rule_says (IntTerm y) (AtomTerm b) = λ f e. cc
rule_says (IntTerm y) (Compound g us) = λ f e. cc
rule_says (AtomTerm a) (VarTerm n) = record { sides = inr (refl, refl); absent = refl; older = λ m e. cc }
rule_says (AtomTerm a) (IntTerm z) = λ f e. cc
rule_says (AtomTerm a) (AtomTerm b) = by_test (AtomTerm a) (AtomTerm b) (pointwise nat_eq a b) (λ e. ap AtomTerm (same_text a b (sym e))) (λ e f h. other_text a b (sym e) cc)
rule_says (AtomTerm a) (Compound g us) = λ f e. cc
rule_says (Compound g ts) (VarTerm n) = by_occurs (Compound g ts) (VarTerm n) (occurs_in n ts) n (Compound g ts) (λ k e. cc) (inr (refl, refl)) (λ o f e. too_large n g ts f o e) refl
rule_says (Compound g ts) (IntTerm z) = λ f e. cc
rule_says (Compound g ts) (AtomTerm b) = λ f e. cc
rule_says (Compound g ts) (Compound h us) = by_name (Compound g ts) (Compound h us) (pointwise nat_eq g h && count ts == count us) (pairs ts us) (λ e. opened g h ts us (both _ _ e)) (λ e f k. shapes_differ g h ts us f e k)
