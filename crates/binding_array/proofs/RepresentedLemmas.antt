-- Cells that represent substitutions.
use Rattle.std.proofs.Common.{◌≡◌, ℕ, ◌<◌, ◌==◌, Bool, true, false, cond, List, length, get_or, slice_set, slice_index_or, refl, sym, ap, ◌∙◌, subst, arith}
use Rattle.std.proofs.lemmas.Bool.Decides.{nat_tests}
use Rattle.std.proofs.lemmas.List.{get_or-set_same, get_or-set_other, get_or_default}
use Rattle.au_term.specs.Term.{Term, VarTerm}
use Rattle.au_term.proofs.LogicLemmas.{number_same}
use Rattle.au_model.specs.Terms.Substitutions.{Substitution, apply, value_of, resolve, only}
use Rattle.au_model.proofs.ApplyLemmas.{apply-same, apply-apply, apply-only_absent}
use Rattle.clause_compile.specs.Places.{CodeView}
use Rattle.binding_array.specs.Represented.{variable_cell, cell_term, IsBoundCell, IsFalling, AreFalling, CellStandsFor, Represents, IsFollowed, IsStored, BindingRepresents}
use Rattle.binding_array.specs.declared.cell.BindingCell.{BindingCell}
use Rattle.binding_array.specs.declared.cell.BindingCell.TheVariants.{Free, Var, Int, Atom, Compound}

-- a cell that was written
pub written : (cells : List BindingCell) (v u : ℕ) (c : BindingCell) → v < length cells → variable_cell (slice_set cells v c) u ≡ cond (v == u) c (variable_cell cells u)
written cells v u c lt = by_test (v == u) refl
  where
    by_test : (b : Bool) → (v == u) ≡ b → get_or (slice_set cells v c) u Free ≡ cond b c (get_or cells u Free)
    by_test true e = let same : v ≡ u = grind (arith, nat_tests) in subst (λ w. get_or (slice_set cells v c) w Free ≡ c) same (get_or-set_same cells v c Free lt)
    by_test false e = get_or-set_other cells v u c Free (λ k. let same : u ≡ v = k in grind (arith, nat_tests))

-- a cell that was read
pub read : (cells : List BindingCell) (v : ℕ) (c d : BindingCell) → v < length cells → c ≡ slice_index_or cells v d → variable_cell cells v ≡ c
read cells v c d lt e = sym (e ∙ get_or_default cells v d Free lt)

-- where a chain goes on
pub link_falls : (cells : List BindingCell) (v next : ℕ) → AreFalling cells → variable_cell cells v ≡ Var next → next < v
link_falls cells v next falls e = subst (IsFalling v) e (falls v)

pub link_stands : (code : CodeView) (cells : List BindingCell) (s : Substitution) (v next : ℕ) → Represents code cells s → variable_cell cells v ≡ Var next → value_of s v ≡ value_of s next
link_stands code cells s v next r e = subst (CellStandsFor code s v) e (r v)

-- what is neither a link nor free is at the end of a chain
pub end_of : (cells : List BindingCell) (c : BindingCell) → ((x : ℕ) → c ≡ Var x → ⊥) → (c ≡ Free → ⊥) → IsFollowed cells c × IsBoundCell c
end_of cells Free not_var not_free = absurd (not_free refl)
end_of cells (Var x) not_var not_free = absurd (not_var x refl)
end_of cells (Int z) not_var not_free = (tt, tt)
end_of cells (Atom a) not_var not_free = (tt, tt)
end_of cells (Compound at base) not_var not_free = (tt, tt)

pub stored_at : (cells : List BindingCell) (v : ℕ) (c : BindingCell) → variable_cell cells v ≡ c → ((x : ℕ) → c ≡ Var x → ⊥) → (c ≡ Free → ⊥) → IsStored cells c
stored_at cells v Free e not_var not_free = absurd (not_free refl)
stored_at cells v (Var x) e not_var not_free = absurd (not_var x refl)
stored_at cells v (Int z) e not_var not_free = record { variable = v; is = e }
stored_at cells v (Atom a) e not_var not_free = record { variable = v; is = e }
stored_at cells v (Compound at base) e not_var not_free = record { variable = v; is = e }

-- what a value stands for is what its cell says
stands : (code : CodeView) (s : Substitution) (v : ℕ) (c : BindingCell) → IsBoundCell c → value_of s v ≡ resolve s (cell_term code c) → CellStandsFor code s v c
stands code s v Free b e = absurd b
stands code s v (Var w) b e = e
stands code s v (Int z) b e = e
stands code s v (Atom a) b e = e
stands code s v (Compound at base) b e = e

pub stood : (code : CodeView) (s : Substitution) (v : ℕ) (c : BindingCell) → IsBoundCell c → CellStandsFor code s v c → value_of s v ≡ resolve s (cell_term code c)
stood code s v Free b e = absurd b
stood code s v (Var w) b e = e
stood code s v (Int z) b e = e
stood code s v (Atom a) b e = e
stood code s v (Compound at base) b e = e

applied_twice : (s now : Substitution) (x : ℕ) (t u : Term) → ((n : ℕ) → value_of now n ≡ apply (only x t) (value_of s n)) → resolve now u ≡ apply (only x t) (resolve s u)
applied_twice s now x t u h = apply-same (value_of now) (λ n. apply (only x t) (value_of s n)) h u ∙ sym (apply-apply (only x t) (value_of s) u)

pub binding_represents : BindingRepresents
binding_represents code cells s now v c r free lt bound apart h u = subst (CellStandsFor code now u) (sym (written cells v u c lt)) (by_test (v == u) refl)
  where
    t : Term
    t = resolve s (cell_term code c)

    its_value : value_of now v ≡ t
    its_value = h v ∙ (ap (apply (only v t)) (subst (CellStandsFor code s v) free (r v)) ∙ ap (λ b. cond b t (VarTerm v)) (number_same v))

    its_term : resolve now (cell_term code c) ≡ t
    its_term = applied_twice s now v t (cell_term code c) h ∙ apply-only_absent v t t apart

    other : (w : ℕ) (d : BindingCell) → (v == w) ≡ false → CellStandsFor code s w d → CellStandsFor code now w d
    other w Free e k = h w ∙ (ap (apply (only v t)) k ∙ ap (λ b. cond b t (VarTerm w)) e)
    other w (Var x) e k = h w ∙ (ap (apply (only v t)) k ∙ sym (applied_twice s now v t (VarTerm x) h))
    other w (Int z) e k = h w ∙ ap (apply (only v t)) k
    other w (Atom a) e k = h w ∙ ap (apply (only v t)) k
    other w (Compound at base) e k = h w ∙ (ap (apply (only v t)) k ∙ sym (applied_twice s now v t (cell_term code (Compound at base)) h))

    by_test : (b : Bool) → (v == u) ≡ b → CellStandsFor code now u (cond b c (variable_cell cells u))
    by_test true e = let same : v ≡ u = grind (arith, nat_tests) in subst (λ w. CellStandsFor code now w c) same (stands code now v c bound (its_value ∙ sym its_term))
    by_test false e = other u (variable_cell cells u) e (r u)
