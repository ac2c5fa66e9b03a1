-- Bindings that are made further, one after another.
use Rattle.std.proofs.Common.{◌≡◌, ◌⊎◌, inl, inr, ℕ, zero, suc, ◌<◌, ◌≤◌, Bool, true, false, nat_lt, ◌==◌, [], ◌∷◌, ◌++◌, refl, sym, ap, ◌∙◌, arith}
use Rattle.std.proofs.lemmas.Bool.{eqb-true}
use Rattle.std.proofs.lemmas.Bool.Decides.{nat_tests}
use Rattle.std.proofs.lemmas.List.Elements.{Contains-append_left, Contains-append_right, Contains-append_cases}
use Rattle.au_term.specs.Term.{Term, VarTerm, IntTerm, AtomTerm, Compound}
use Rattle.au_model.specs.Terms.Substitutions.{Substitution, value_of, resolve, occurs}
use Rattle.au_model.proofs.ApplyLemmas.{apply-apply, apply-same}
use Rattle.au_model.proofs.EachLemmas.{each-append, each-more}
use Rattle.cell_store.proofs.OccurrenceLemmas.{agreed}
use Rattle.branch_bindings.specs.Extensions.{WrittenBindings, IsBoundAmong, IsWrittenBinding, BindOnce, ExtendsBy}
use Rattle.branch_bindings.specs.ExtensionLaws.{StandsForOlder, IsFinal, ExtensionsCompose, ExtensionsStayOlder, ExtensionsAreFinal, NothingExtends}
use Rattle.branch_bindings.proofs.MadeUnifierLemmas.{each_of, ComesBefore, inside_before, by_size}

-- what is bound further is bound in what was bound
pub resolved_further : (s t : Substitution) → ((v : ℕ) → value_of t v ≡ resolve t (value_of s v)) → (u : Term) → resolve t (resolve s u) ≡ resolve t u
resolved_further s t h u = apply-apply (value_of t) (value_of s) u ∙ apply-same (λ w. resolve t (value_of s w)) (value_of t) (λ w. sym (h w)) u

-- a term stands for no variable that is younger than one, where no older one does
pub from_older : (s : Substitution) (v m : ℕ) (t : Term) → ((u : ℕ) → u < v → (k : ℕ) → value_of s u ≡ VarTerm k → k ≤ u)
    → ((w : ℕ) → t ≡ VarTerm w → w < v) → resolve s t ≡ VarTerm m → m < v
from_older s v m (VarTerm u) less falls e = let lt = falls u refl in let le = less u lt m e in omega arith
from_older s v m (IntTerm z) less falls e = absurd cc
from_older s v m (AtomTerm a) less falls e = absurd cc
from_older s v m (Compound f ts) less falls e = absurd cc

module _ (a b : Substitution) (n : ℕ) (bs : WrittenBindings) (older : StandsForOlder a) (h : ExtendsBy a b n bs) where
  binding_of : (v : ℕ) (k : IsBoundAmong bs v) → IsWrittenBinding a b n (v, k.value)
  binding_of v k = each_of (IsWrittenBinding a b n) bs (v, k.value) h.each k.is

  by_value : (v m : ℕ) → ((u : ℕ) → u < v → (k : ℕ) → value_of b u ≡ VarTerm k → k ≤ u) → (t : Term) → value_of a v ≡ t → resolve b t ≡ VarTerm m → m ≤ v
  by_value v m less (VarTerm w) e r = by_test (nat_lt w v) refl
    where
      le : w ≤ v
      le = older v w e

      free : w ≡ v → (value_of b v ≡ VarTerm v) ⊎ IsBoundAmong bs v → m ≤ v
      free same (inl f) = let here : VarTerm v ≡ VarTerm m = sym f ∙ (ap (value_of b) (sym same) ∙ r) in let k : v ≡ m = cc in omega arith
      free same (inr k) = let lt = from_older b v m k.value less (binding_of v k).older
          (sym (binding_of v k).stands ∙ (ap (value_of b) (sym same) ∙ r)) in omega arith

      by_test : (t : Bool) → nat_lt w v ≡ t → m ≤ v
      by_test true q = let lt : w < v = grind (arith, nat_tests) in let k = less w lt m r in omega arith
      by_test false q = let ge : v ≤ w = grind (arith, nat_tests) in let same : w ≡ v = omega (arith, le) in free same (h.others v (e ∙ ap VarTerm same))
  by_value v m less (IntTerm z) e r = absurd cc
  by_value v m less (AtomTerm z) e r = absurd cc
  by_value v m less (Compound f ts) e r = absurd cc

  below : (k v : ℕ) → v < k → (m : ℕ) → value_of b v ≡ VarTerm m → m ≤ v
  below zero v lt m e = absurd (omega arith)
  below (suc k) v lt m e = by_value v m (λ u l. below k u (omega arith)) (value_of a v) refl (sym (h.further v) ∙ e)

  pub stays_older : StandsForOlder b
  stays_older v = below (suc v) v (omega arith)

  -- what is free now was free
  pub was_free : (v : ℕ) → value_of b v ≡ VarTerm v → value_of a v ≡ VarTerm v
  was_free v f = from_term (value_of a v) refl (sym (h.further v) ∙ f)
    where
      from_term : (t : Term) → value_of a v ≡ t → resolve b t ≡ VarTerm v → t ≡ VarTerm v
      from_term (VarTerm w) e r = let down = older v w e in let up = stays_older w v r in ap VarTerm (omega arith)
      from_term (IntTerm z) e r = absurd cc
      from_term (AtomTerm z) e r = absurd cc
      from_term (Compound z ts) e r = absurd cc

  -- and what was bound is not
  pub not_free : (v : ℕ) → IsBoundAmong bs v → value_of b v ≡ VarTerm v → ⊥
  not_free v k f =
      let lt = from_older b v v k.value (λ u l. stays_older u) (binding_of v k).older (sym (binding_of v k).stands ∙ f) in omega arith

-- what a variable stands for has all bindings applied, where that holds of the variables of a term that stands for the same
final_by : (s : Substitution) (v : ℕ) (t : Term) → value_of s v ≡ resolve s t → ((w : ℕ) → occurs w t ≡ true → resolve s (value_of s w) ≡ value_of s w)
    → resolve s (value_of s v) ≡ value_of s v
final_by s v t e h =
    ap (resolve s) e ∙ (apply-apply (value_of s) (value_of s) t ∙ (agreed (λ w. resolve s (value_of s w)) (value_of s) t h ∙ sym e))

module _ (a b : Substitution) (n : ℕ) (bs : WrittenBindings) (older : StandsForOlder a) (h : ExtendsBy a b n bs) where
  abbrev FinalBefore : ℕ → Type 0
  FinalBefore v = (w : ℕ) → ComesBefore b w v → resolve b (value_of b w) ≡ value_of b w

  was_free_here : (v : ℕ) → FinalBefore v → value_of a v ≡ VarTerm v → resolve b (value_of b v) ≡ value_of b v
  was_free_here v before f = elim (h.others v f) [
    | inl e ↦ ap (resolve b) e
    | inr k ↦
        let one = each_of (IsWrittenBinding a b n) bs (v, k.value) h.each k.is in
        final_by b v k.value one.stands (λ w o. before w (inside_before b v w k.value one.stands one.older o))
  ]

  stood_for : (v : ℕ) → FinalBefore v → ((w : ℕ) → value_of a v ≡ VarTerm w → w < v) → resolve b (value_of b v) ≡ value_of b v
  stood_for v before falls =
      final_by b v (value_of a v) (h.further v) (λ w o. before w (inside_before b v w (value_of a v) (h.further v) falls o))

  final_step : (v : ℕ) → FinalBefore v → resolve b (value_of b v) ≡ value_of b v
  final_step v before = by_value_of (value_of a v) refl
    where
      by_test : (w : ℕ) → value_of a v ≡ VarTerm w → (t : Bool) → (w == v) ≡ t → resolve b (value_of b v) ≡ value_of b v
      by_test w e true q = was_free_here v before (e ∙ ap VarTerm (eqb-true w v q))
      by_test w e false q = stood_for v before (λ u f.
          let both : VarTerm w ≡ VarTerm u = sym e ∙ f in
          let same : w ≡ u = cc in
          let le : w ≤ v = older v w e in
          let lt : w < v = grind (arith, nat_tests) in
          omega (arith, same, lt))

      by_value_of : (t : Term) → value_of a v ≡ t → resolve b (value_of b v) ≡ value_of b v
      by_value_of (VarTerm w) e = by_test w e (w == v) refl
      by_value_of (IntTerm z) e = stood_for v before (λ u f. absurd cc)
      by_value_of (AtomTerm z) e = stood_for v before (λ u f. absurd cc)
      by_value_of (Compound z ts) e = stood_for v before (λ u f. absurd cc)

  pub becomes_final : IsFinal b
  becomes_final = by_size b (λ v. resolve b (value_of b v) ≡ value_of b v) final_step

module _ (a b c : Substitution) (n m : ℕ) (bs cs : WrittenBindings) (older : StandsForOlder a) (h : ExtendsBy a b n bs) (k : ExtendsBy b c m cs)
    (le : n ≤ m) where
  through : (t : Term) → resolve c (resolve b t) ≡ resolve c t
  through = resolved_further b c k.further

  first : (q : ℕ × Term) → IsWrittenBinding a b n q → IsWrittenBinding a c m q
  first q w = record {
    there = omega (arith, w.there);
    free = w.free;
    stands = k.further q.0 ∙ (ap (resolve c) w.stands ∙ through q.1);
    older = w.older;
    below = omega (arith, w.below);
  }

  second : (q : ℕ × Term) → IsWrittenBinding b c m q → IsWrittenBinding a c m q
  second q w = record { there = w.there; free = was_free a b n bs older h q.0 w.free; stands = w.stands; older = w.older; below = w.below }

  apart : (v : ℕ) → IsBoundAmong bs v → IsBoundAmong cs v → ⊥
  apart v p q = not_free a b n bs older h v p (each_of (IsWrittenBinding b c m) cs (v, q.value) k.each q.is).free

  both_once : (xs : WrittenBindings) → ((v : ℕ) → IsBoundAmong xs v → IsBoundAmong bs v) → BindOnce xs → BindOnce (xs ++ cs)
  both_once [] within o = k.once
  both_once (x ∷ xs) within o = (
    λ value q. elim (Contains-append_cases xs cs (x.0, value) q) [
      | inl p ↦ o.0 value p
      | inr p ↦ apart x.0 (within x.0 (record { value = x.1; is = (0, omega arith, refl) })) (record { value = value; is = p })
    ],
    both_once xs (λ v p. within v (record { value = p.value; is = Contains-append_right (x ∷ []) xs (v, p.value) p.is })) o.1,
  )

  free_or_bound : (v : ℕ) → value_of a v ≡ VarTerm v → (value_of c v ≡ VarTerm v) ⊎ IsBoundAmong (bs ++ cs) v
  free_or_bound v f = elim (h.others v f) [
    | inl e ↦ elim (k.others v e) [
      | inl z ↦ inl z
      | inr p ↦ inr (record { value = p.value; is = Contains-append_right bs cs (v, p.value) p.is })
    ]
    | inr p ↦ inr (record { value = p.value; is = Contains-append_left bs cs (v, p.value) p.is })
  ]

  both_extend : ExtendsBy a c m (bs ++ cs)
  both_extend = record {
    each = each-append (IsWrittenBinding a c m) bs cs (each-more _ _ first bs h.each) (each-more _ _ second cs k.each);
    once = both_once bs (λ v p. p) h.once;
    others = free_or_bound;
    further = λ v. k.further v ∙ (ap (resolve c) (h.further v) ∙ through (value_of a v));
  }

pub extensions_compose : ExtensionsCompose
extensions_compose a b c n m bs cs older h k le = both_extend a b c n m bs cs older h k le

pub extensions_stay_older : ExtensionsStayOlder
extensions_stay_older a b n bs older h = stays_older a b n bs older h

pub extensions_are_final : ExtensionsAreFinal
extensions_are_final a b n bs older h = becomes_final a b n bs older h

pub nothing_extends : NothingExtends
nothing_extends s n final = record { each = tt; once = tt; others = λ v f. inl f; further = λ v. sym (final v) }
