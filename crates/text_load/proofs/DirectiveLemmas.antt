-- Directives by the first cells of their arguments.
use Rattle.std.proofs.Common.{◌≡◌, ◌∙◌, ℕ, ℤ, Bool, true, false, cond, ◌&&◌, ◌==◌, List, [], ◌∷◌, ◌++◌, Option, Some, None, codes, refl, sym, ap, ap₂, append_assoc}
use Rattle.std.specs.Option.{option_map}
use Rattle.au_term.specs.Term.{Term, VarTerm, IntTerm, AtomTerm, Compound, end, more, count, argument, argument_count}
use Rattle.au_term.specs.PrefixOrder.{top_of}
use Rattle.au_term.specs.declared.cell.Cell.TheVariants.{Int as IntCell, Atom as AtomCell}
use Rattle.au_model.specs.Terms.Forms.{same_name}
use Rattle.au_model.proofs.ListFormLemmas.{no_two}
use Rattle.dyn_clauses.specs.declared.indicator.Indicator.{Indicator}
use Rattle.text_load.specs.Directives.{indicator_before, indicator_in, indicator_with, has_indicator}

indicator_of_two : (f name : List ℕ) (z : ℤ) (a b : Term) → same_name f (codes "/") ≡ true → top_of a ≡ AtomCell name → top_of b ≡ IntCell z → indicator_with name z ≡ indicator_in (Compound f (more a (more b end)))
indicator_of_two f name z (AtomTerm n) (IntTerm y) e k h =
    let names : name ≡ n = cc in
    let numbers : z ≡ y = cc in
    ap₂ indicator_with names numbers ∙ sym (ap (λ q. cond q (indicator_with n y) None) e)
indicator_of_two f name z (AtomTerm n) (VarTerm m) e k h = let g : ⊥ = cc in absurd g
indicator_of_two f name z (AtomTerm n) (AtomTerm m) e k h = let g : ⊥ = cc in absurd g
indicator_of_two f name z (AtomTerm n) (Compound m ts) e k h = let g : ⊥ = cc in absurd g
indicator_of_two f name z (VarTerm n) b e k h = let g : ⊥ = cc in absurd g
indicator_of_two f name z (IntTerm n) b e k h = let g : ⊥ = cc in absurd g
indicator_of_two f name z (Compound n ts) b e k h = let g : ⊥ = cc in absurd g

pub indicator_is : (t : Term) (name : List ℕ) (z : ℤ) → has_indicator t (codes "/") 2 ≡ true → top_of (argument 0 t) ≡ AtomCell name → top_of (argument 1 t) ≡ IntCell z → indicator_with name z ≡ indicator_in t
indicator_is (VarTerm n) name z e k h = let g : ⊥ = cc in absurd g
indicator_is (IntTerm n) name z e k h = let g : ⊥ = cc in absurd g
indicator_is (AtomTerm n) name z e k h = let g : ⊥ = cc in absurd g
indicator_is (Compound f end) name z e k h = let g : ⊥ = cc in absurd g
indicator_is (Compound f (more a end)) name z e k h = let g : ⊥ = cc in absurd g
indicator_is (Compound f (more a (more b end))) name z e k h = indicator_of_two f name z a b e k h
indicator_is (Compound f (more a (more b (more c ts)))) name z e k h = let no = ap (λ q. q && same_name f (codes "/")) (no_two (count ts)) in absurd cc

-- ---- indicators found one after another

abbrev pub after_found : List Indicator → Option (List Indicator) → Option (List Indicator)
after_found is o = option_map (λ js. is ++ js) o

pub found_more : (is : List Indicator) (i : Indicator) (o : Option (List Indicator)) → after_found is (indicator_before (Some i) o) ≡ after_found (is ++ i ∷ []) o
found_more is i None = refl
found_more is i (Some js) = ap Some (sym (append_assoc is (i ∷ []) js))
