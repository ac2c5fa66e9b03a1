-- The substitution that cells represent is the one that is read off them.
use Rattle.std.proofs.Common.{◌≡◌, ℕ, zero, suc, ◌<◌, ◌≤◌, true, nat_lt, List, [], ◌∷◌, length, refl, sym, ap, ◌∙◌, subst, arith}
use Rattle.std.proofs.lemmas.Bool.{eqb-true}
use Rattle.au_term.specs.Term.{Term, VarTerm, Compound as CompoundTerm, Terms, var_bound}
use Rattle.au_term.specs.Shifted.{shifted, all_shifted}
use Rattle.au_model.specs.Terms.Substitutions.{Substitution, apply, value_of, resolve, occurs}
use Rattle.au_model.specs.Terms.Unifier.{size}
use Rattle.au_model.proofs.ApplyLemmas.{apply-apply, size_all-occurs}
use Rattle.clause_compile.specs.Places.{CodeView, BeginsCompound, IsPlaceOf, compound_here, compound_to, meaning_in}
use Rattle.clause_compile.specs.declared.place.Place.{Place}
use Rattle.clause_compile.specs.declared.place.Place.TheVariants.{Functor, Var as VarPlace, Int as IntPlace, Atom as AtomPlace, Sub, Ground}
use Rattle.binding_array.specs.Represented.{variable_cell, cell_term, IsBoundCell, IsFalling, AreFalling, CellStandsFor, Represents}
use Rattle.binding_array.specs.declared.cell.BindingCell.{BindingCell}
use Rattle.binding_array.specs.declared.cell.BindingCell.TheVariants.{Free, Var, Int, Atom, Compound}
use Rattle.binding_array.proofs.RepresentedLemmas.{stood}
use Rattle.cell_store.specs.Values.{IsValue, IsCell, AreCells}
use Rattle.cell_store.specs.CellMeanings.{value_by, value_to}
use Rattle.cell_store.proofs.OccurrenceLemmas.{agreed, occurs_below}
use Rattle.cell_store.proofs.CountLemmas.{rank, rank-lt, tally-within, smaller_first, lower_first, place_by_size}

-- a compound
pub data IsCompound : Term → Type 0 where
  compound : (f : List ℕ) (ts : Terms) → IsCompound (CompoundTerm f ts)

begins_compound : (k : ℕ) (names : List (List ℕ)) (g : ℕ → Term) (ps : List Place) → BeginsCompound k ps → IsCompound (compound_here names g ps)
begins_compound k names g [] b = absurd b
begins_compound k names g (Functor f n ∷ ps) b = compound _ _
begins_compound k names g (VarPlace v ∷ ps) b = absurd b
begins_compound k names g (IntPlace z ∷ ps) b = absurd b
begins_compound k names g (AtomPlace a ∷ ps) b = absurd b
begins_compound k names g (Sub i ∷ ps) b = absurd b
begins_compound k names g (Ground i ∷ ps) b = absurd b

shifted_compound : (base : ℕ) (t : Term) → IsCompound t → IsCompound (shifted base t)
shifted_compound base t (compound f ts) = compound f (all_shifted base ts)

-- a compound's place means one
pub means_compound : (code : CodeView) (at base : ℕ) → IsPlaceOf code (Sub at) → IsCompound (cell_term code (Compound at base))
means_compound code at base p = shifted_compound base (meaning_in code (Sub at)) (deep (length code.places) p.0)
  where
    deep : (n : ℕ) → at < n → IsCompound (compound_to n code.names code.places at)
    deep zero lt = absurd (omega arith)
    deep (suc n) lt = begins_compound (length code.names) code.names (compound_to n code.names code.places) _ p.1

smaller_inside : (s : Substitution) (t : Term) (w : ℕ) → IsCompound t → occurs w t ≡ true → size (value_of s w) < size (resolve s t)
smaller_inside s t w (compound f ts) o = omega (arith, size_all-occurs (value_of s) w ts o)

-- a cell that is not free has a value
is_bound : (c : BindingCell) → (c ≡ Free → ⊥) → IsBoundCell c
is_bound Free h = absurd (h refl)
is_bound (Var v) h = tt
is_bound (Int z) h = tt
is_bound (Atom a) h = tt
is_bound (Compound at base) h = tt

value_of_cell : (code : CodeView) (n : ℕ) (c : BindingCell) → IsBoundCell c → IsCell code n c → IsValue code n c
value_of_cell code n Free b h = absurd b
value_of_cell code n (Var v) b h = h
value_of_cell code n (Int z) b h = h
value_of_cell code n (Atom a) b h = h
value_of_cell code n (Compound at base) b h = h

pub term_below : (code : CodeView) (n : ℕ) (c : BindingCell) → IsValue code n c → var_bound (cell_term code c) ≤ n
term_below code n Free h = absurd h
term_below code n (Var v) h = omega (arith, h)
term_below code n (Int z) h = omega arith
term_below code n (Atom a) h = omega arith
term_below code n (Compound at base) h = h.1

pub by_term : (code : CodeView) (f : ℕ → Term) (v : ℕ) (c : BindingCell) → IsBoundCell c → value_by code f v c ≡ apply f (cell_term code c)
by_term code f v Free b = absurd b
by_term code f v (Var w) b = refl
by_term code f v (Int z) b = refl
by_term code f v (Atom a) b = refl
by_term code f v (Compound at base) b = refl

pub data FreeOrBound (c : BindingCell) : Type 0 where
  is_free : c ≡ Free → FreeOrBound c
  is_bound_cell : IsBoundCell c → FreeOrBound c

pub free_or_bound : (c : BindingCell) → FreeOrBound c
free_or_bound Free = is_free refl
free_or_bound (Var v) = is_bound_cell tt
free_or_bound (Int z) = is_bound_cell tt
free_or_bound (Atom a) = is_bound_cell tt
free_or_bound (Compound at base) = is_bound_cell tt

pub free_stands : (code : CodeView) (s : Substitution) (v : ℕ) (cells : List BindingCell) → Represents code cells s → variable_cell cells v ≡ Free → value_of s v ≡ VarTerm v
free_stands code s v cells r e = subst (CellStandsFor code s v) e (r v)

pub bound_stands : (code : CodeView) (s : Substitution) (v : ℕ) (cells : List BindingCell) → Represents code cells s → IsBoundCell (variable_cell cells v) → value_of s v ≡ resolve s (cell_term code (variable_cell cells v))
bound_stands code s v cells r b = stood code s v (variable_cell cells v) b (r v)

-- cells that represent a substitution
module _ (code : CodeView) (cells : List BindingCell) (s : Substitution) (falling : AreFalling cells) (values : AreCells code cells) (r : Represents code cells s) where
  abbrev n : ℕ
  n = length cells

  abbrev size_at : ℕ → ℕ
  size_at v = size (value_of s v)

  abbrev term_at : ℕ → Term
  term_at v = cell_term code (variable_cell cells v)

  pub has_value : (v : ℕ) → IsBoundCell (variable_cell cells v) → IsValue code n (variable_cell cells v)
  has_value v b = value_of_cell code n (variable_cell cells v) b (values v)

  -- the variables of a variable's value come before it
  comes_before : (v w : ℕ) (c : BindingCell) → IsValue code n c → IsFalling v c → value_of s v ≡ resolve s (cell_term code c) → occurs w (cell_term code c) ≡ true → (w < n) × (place_by_size n size_at w < place_by_size n size_at v)
  comes_before v w Free h f e o = absurd h
  comes_before v w (Var u) h f e o =
      let same : w ≡ u = eqb-true w u o in
      (omega (arith, h), lower_first n size_at w v (ap (λ k. size (value_of s k)) same ∙ sym (ap size e)) (omega (arith, f)))
  comes_before v w (Int z) h f e o = absurd cc
  comes_before v w (Atom a) h f e o = absurd cc
  comes_before v w (Compound at base) h f e o =
      let lt : w < n = omega (arith, occurs_below w (cell_term code (Compound at base)) o, h.1) in
      let less = smaller_inside s (cell_term code (Compound at base)) w (means_compound code at base h.0) o in
      (lt, smaller_first n size_at w v (subst (λ k. size (value_of s w) < k) (sym (ap size e)) less) lt)

  abbrev rank_of : ℕ → ℕ
  rank_of v = rank n size_at v

  rank_falls : (v w : ℕ) → IsBoundCell (variable_cell cells v) → occurs w (term_at v) ≡ true → rank_of w < rank_of v
  rank_falls v w b o =
      let h = comes_before v w (variable_cell cells v) (has_value v b) (falling v) (bound_stands code s v cells r b) o in
      rank-lt n size_at w v h.0 h.1

  -- what holds of a variable where it holds of those of its value holds of all
  pub by_values : (P : ℕ → Type 0) → ((v : ℕ) → variable_cell cells v ≡ Free → P v) → ((v : ℕ) → IsBoundCell (variable_cell cells v) → ((w : ℕ) → occurs w (term_at v) ≡ true → P w) → P v) → (v : ℕ) → P v
  by_values P free bound v = to (suc (rank_of v)) v (omega arith)
    where
      to : (m u : ℕ) → rank_of u < m → P u
      to zero u lt = absurd (omega arith)
      to (suc m) u lt = elim (free_or_bound (variable_cell cells u)) [ is_free e ↦ free u e | is_bound_cell b ↦ bound u b (λ w o. to m w (omega (arith, rank_falls u w b o))) ]

  -- deep enough is what it stands for
  deep_value : (m v : ℕ) → rank_of v < m → value_to m code cells v ≡ value_of s v
  deep_value zero v lt = absurd (omega arith)
  deep_value (suc m) v lt = elim (free_or_bound (variable_cell cells v)) [
    | is_free e ↦ ap (value_by code (value_to m code cells) v) e ∙ sym (free_stands code s v cells r e)
    | is_bound_cell b ↦
        by_term code (value_to m code cells) v (variable_cell cells v) b
        ∙ (agreed (value_to m code cells) (value_of s) (term_at v) (λ w o. deep_value m w (omega (arith, rank_falls v w b o))) ∙ sym (bound_stands code s v cells r b))
  ]

  pub read_value : (v : ℕ) → value_to (suc n) code cells v ≡ value_of s v
  read_value v = deep_value (suc n) v (omega (arith, tally-within n (λ u. nat_lt (place_by_size n size_at u) (place_by_size n size_at v))))

  -- no binding changes what a variable stands for
  pub is_final : (v : ℕ) → resolve s (value_of s v) ≡ value_of s v
  is_final = by_values (λ v. resolve s (value_of s v) ≡ value_of s v)
      (λ v e. ap (resolve s) (free_stands code s v cells r e))
      (λ v b h. ap (resolve s) (bound_stands code s v cells r b) ∙ (apply-apply (value_of s) (value_of s) (term_at v) ∙ (agreed (λ w. resolve s (value_of s w)) (value_of s) (term_at v) h ∙ sym (bound_stands code s v cells r b))))
