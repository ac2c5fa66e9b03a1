-- The bindings that a store has made since a mark, as they are written.
use Rattle.std.proofs.Common.{◌≡◌, ◌⊎◌, inl, inr, ℕ, ◌<◌, ◌≤◌, Bool, true, false, cond, ◌==◌, nat_lt, [], ◌∷◌, refl, sym, ap, ◌∙◌, arith}
use Rattle.std.proofs.lemmas.Bool.{eqb-true}
use Rattle.std.proofs.lemmas.Bool.Decides.{nat_tests}
use Rattle.std.proofs.lemmas.List.Elements.{Contains-append_right}
use Rattle.au_term.specs.Term.{VarTerm, var_bound}
use Rattle.au_term.proofs.LogicLemmas.{number_same}
use Rattle.au_model.specs.Terms.Each.{Each}
use Rattle.au_model.specs.Terms.Substitutions.{Substitution, value_of, resolve}
use Rattle.au_model.proofs.ApplyLemmas.{apply-apply, apply-same}
use Rattle.au_model.proofs.EachLemmas.{each-map}
use Rattle.binding_array.specs.Represented.{IsFalling}
use Rattle.binding_array.specs.declared.cell.BindingCell.{BindingCell}
use Rattle.binding_array.specs.declared.cell.BindingCell.TheVariants.{Free, Var, Int, Atom, Compound}
use Rattle.cell_store.specs.MadeBindings.{Bindings, substitution_of, AreRising, AreMadeSince}
use Rattle.cell_store.specs.StoreView.{Moment, StoreView, substitution, text_in, value_term, meaning, IsValueIn, IsValidStore}
use Rattle.cell_store.proofs.CellMeaningLemmas.{means_compound, term_below}
use Rattle.cell_store.proofs.SubstitutionLemmas.{no_variable, resolved_compound}
use Rattle.branch_bindings.specs.Extensions.{IsBoundAmong, IsWrittenBinding, BindOnce}
use Rattle.branch_bindings.specs.ExtensionLaws.{written_bindings, MadeBindingsExtend}
use Rattle.branch_bindings.proofs.CellEquationLemmas.{older_value}
use Rattle.branch_bindings.proofs.MadeUnifierLemmas.{each_of}

-- what the substitution of bindings gives, each of which binds another variable
module _ (st : StoreView) where
  behind : (b : ℕ × BindingCell) (all xs : Bindings) → Each (λ d. b.0 < d.0) xs → Each (λ d. value_of (substitution_of st all) d.0 ≡ meaning st d.1) xs
      → Each (λ d. value_of (substitution_of st (b ∷ all)) d.0 ≡ meaning st d.1) xs
  behind b all [] lt h = tt
  behind b all (d ∷ xs) lt h =
      let other : (b.0 == d.0) ≡ false = (let less : b.0 < d.0 = lt.0 in grind (arith, nat_tests)) in
      (ap (λ c. cond c (meaning st b.1) (value_of (substitution_of st all) d.0)) other ∙ h.0, behind b all xs lt.1 h.1)

  looked_up : (bs : Bindings) → AreRising bs → Each (λ b. value_of (substitution_of st bs) b.0 ≡ meaning st b.1) bs
  looked_up [] r = tt
  looked_up (b ∷ bs) r =
      (ap (λ c. cond c (meaning st b.1) (value_of (substitution_of st bs) b.0)) (number_same b.0), behind b bs bs r.0 (looked_up bs r.1))

  free_or_bound : (bs : Bindings) (v : ℕ) → (value_of (substitution_of st bs) v ≡ VarTerm v) ⊎ IsBoundAmong (written_bindings st bs) v
  free_or_bound [] v = inl refl
  free_or_bound (b ∷ bs) v = by_test (free_or_bound bs v) (b.0 == v) refl
    where
      by_test : (value_of (substitution_of st bs) v ≡ VarTerm v) ⊎ IsBoundAmong (written_bindings st bs) v → (c : Bool) → (b.0 == v) ≡ c
          → (cond c (meaning st b.1) (value_of (substitution_of st bs) v) ≡ VarTerm v) ⊎ IsBoundAmong (written_bindings st (b ∷ bs)) v
      by_test k true e = inr (record { value = value_term st b.1; is = (0, omega arith, ap (λ n. (n, value_term st b.1)) (eqb-true b.0 v e)) })
      by_test (inl k) false e = inl k
      by_test (inr p) false e = inr
          (record { value = p.value; is = Contains-append_right ((b.0, value_term st b.1) ∷ []) (written_bindings st bs) (v, p.value) p.is })

  written_once : (bs : Bindings) → AreRising bs → BindOnce (written_bindings st bs)
  written_once [] r = tt
  written_once (b ∷ bs) r =
      let above = each-map (λ d. b.0 < d.0) (λ d. b.0 < d.0) (λ d. (d.0, value_term st d.1)) (λ d lt. lt) bs r.0 in
      ((λ value c. let lt = each_of (λ d. b.0 < d.0) (written_bindings st bs) (b.0, value) above c in omega (arith, lt)), written_once bs r.1)

-- what a variable is bound to that is none of a store's
module _ (st : StoreView) (valid : IsValidStore st) where
  stands_there : (v : ℕ) (c : BindingCell) → IsValueIn st c → meaning st c ≡ VarTerm v → v < st.now.next
  stands_there v Free h e = absurd h
  stands_there v (Var w) h e = let bound = valid.below w h in omega (arith, bound, ap var_bound e)
  stands_there v (Int z) h e = absurd cc
  stands_there v (Atom a) h e = absurd cc
  stands_there v (Compound at base) h e =
      absurd (no_variable (meaning st (Compound at base)) v
      (resolved_compound (substitution st) (value_term st (Compound at base)) (means_compound (text_in st) at base h.0)) e)

  is_there : (v : ℕ) (c : BindingCell) → IsValueIn st c → value_of (substitution st) v ≡ meaning st c → v < st.now.next
  is_there v c h e = by_test (nat_lt v st.now.next) refl
    where
      by_test : (t : Bool) → nat_lt v st.now.next ≡ t → v < st.now.next
      by_test true q = grind (arith, nat_tests)
      by_test false q = let new : st.now.next ≤ v = grind (arith, nat_tests) in stands_there v c h (sym e ∙ valid.new v new)

module _ (before : Moment) (st : StoreView) (bs : Bindings) (valid : IsValidStore st) (made : AreMadeSince before st bs) where
  abbrev now : Substitution
  now = substitution st

  abbrev further : Substitution
  further = substitution_of st bs

  -- a variable that was free
  made_of : (v : ℕ) → value_of before.bound v ≡ VarTerm v → value_of now v ≡ value_of further v
  made_of v free = made.made v ∙ ap (resolve further) free

  written : (xs : Bindings) → Each (λ b. value_of further b.0 ≡ meaning st b.1) xs → Each (λ b. value_of before.bound b.0 ≡ VarTerm b.0) xs
      → Each (λ b. IsValueIn st b.1) xs → Each (λ b. IsFalling b.0 b.1) xs → Each (IsWrittenBinding before.bound now st.now.next) (written_bindings st xs)
  written [] found free there falling = tt
  written (b ∷ xs) found free there falling =
      let stands : value_of now b.0 ≡ meaning st b.1 = made_of b.0 free.0 ∙ found.0 in (
        record {
          there = is_there st valid b.0 b.1 there.0 stands;
          free = free.0;
          stands = stands;
          older = λ w e. older_value (text_in st) st.now.next b.0 w b.1 there.0 falling.0 e;
          below = term_below (text_in st) st.now.next b.1 there.0;
        },
        written xs found.1 free.1 there.1 falling.1,
      )

  module _ (falling : Each (λ b. IsFalling b.0 b.1) bs) where
    all_written : Each (IsWrittenBinding before.bound now st.now.next) (written_bindings st bs)
    all_written = written bs (looked_up st bs made.rising) made.free made.there falling

    applied : (v : ℕ) → resolve now (value_of further v) ≡ value_of now v
    applied v = elim (free_or_bound st bs v) [
      | inl e ↦ ap (resolve now) e
      | inr p ↦ ap (resolve now)
          (sym (made_of v (each_of (IsWrittenBinding before.bound now st.now.next) (written_bindings st bs) (v, p.value) all_written p.is).free))
          ∙ valid.final v
    ]

    through : (v : ℕ) → value_of now v ≡ resolve now (value_of before.bound v)
    through v = sym (valid.final v) ∙ (ap (resolve now) (made.made v)
        ∙ (apply-apply (value_of now) (value_of further) (value_of before.bound v)
        ∙ apply-same (λ u. resolve now (value_of further u)) (value_of now) applied (value_of before.bound v)))

pub made_bindings_extend : MadeBindingsExtend
made_bindings_extend before st bs valid made falling = record {
  each = all_written before st bs valid made falling;
  once = written_once st bs made.rising;
  others = λ v free. elim (free_or_bound st bs v) [ inl e ↦ inl (made_of before st bs valid made v free ∙ e) | inr p ↦ inr p ];
  further = through before st bs valid made falling;
}
