-- Compounds with other than one or two arguments have no value that is found without any that waits.
use Rattle.std.proofs.Common.{◌≡◌, ℕ, ◌+◌, true, false, List, refl, sym, ap, ◌∙◌}
use Rattle.au_term.specs.Term.{Term, Terms, VarTerm, IntTerm, AtomTerm, Compound as CompoundTerm, end, more, count}
use Rattle.au_model.specs.Terms.Lists.{terms_from}
use Rattle.au_model.specs.Terms.Substitutions.{resolve, apply_all, value_of}
use Rattle.clause_compile.specs.AtomNumbers.{name_at}
use Rattle.binding_array.specs.declared.cell.BindingCell.TheVariants.{Compound}
use Rattle.cell_store.specs.Arguments.{HasFunctor, arguments_from}
use Rattle.cell_store.specs.StoreView.{StoreView, meaning, substitution, text_in}
use Rattle.cell_store.proofs.WritingLemmas.{how_many}
use Rattle.value_goals.specs.ShortValues.{is_short, HasNoShortValue}

wide_is_long : (f : List ℕ) (us : Terms) (n : ℕ) → count us ≡ n → (n ≡ 1 → ⊥) → (n ≡ 2 → ⊥) → is_short (CompoundTerm f us) ≡ false
wide_is_long f end n c one two = refl
wide_is_long f (more t end) n c one two = absurd (one (sym c))
wide_is_long f (more t (more u end)) n c one two = absurd (two (sym c))
wide_is_long f (more t (more u (more v us))) n c one two = by t u
  where
    by : (t u : Term) → is_short (CompoundTerm f (more t (more u (more v us)))) ≡ false
    by (VarTerm m) u = refl
    by (AtomTerm a) u = refl
    by (CompoundTerm g ts) u = refl
    by (IntTerm x) (VarTerm m) = refl
    by (IntTerm x) (IntTerm y) = refl
    by (IntTerm x) (AtomTerm a) = refl
    by (IntTerm x) (CompoundTerm g ts) = refl

pub wide_has_none : (st : StoreView) (at base f n : ℕ) → HasFunctor (text_in st) st.now.next at base f n → (n ≡ 1 → ⊥) → (n ≡ 2 → ⊥) → HasNoShortValue (meaning st (Compound at base))
wide_has_none st at base f n h one two short z has =
    let us = apply_all (value_of (substitution st)) (terms_from (arguments_from (text_in st) base n (at + 1))) in
    let long : is_short (meaning st (Compound at base)) ≡ false = ap (λ t. is_short (resolve (substitution st) t)) h.term ∙ wide_is_long (name_at (text_in st).names f) us n (how_many (substitution st) (text_in st) base n (at + 1)) one two in
    let no : true ≡ false = sym short ∙ long in
    absurd cc
