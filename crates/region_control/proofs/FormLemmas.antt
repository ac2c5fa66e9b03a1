-- The arguments of goals, by their places.
use Rattle.std.proofs.Common.{◌≡◌, ℕ, zero, suc, ◌+◌, ◌<◌, ◌-◌, ◌^◌, sym, ap, ◌∙◌, subst, arith}
use Rattle.au_term.specs.Term.{Compound as CompoundTerm, term_at, arguments, argument_count}
use Rattle.au_model.specs.Terms.Forms.{is_callable, name_of}
use Rattle.au_model.specs.Terms.Lists.{terms_from}
use Rattle.au_model.specs.Terms.Substitutions.{Substitution, resolve, apply_all, value_of}
use Rattle.clause_compile.specs.AtomNumbers.{name_at}
use Rattle.clause_compile.specs.Places.{CodeView}
use Rattle.binding_array.specs.declared.cell.BindingCell.{BindingCell}
use Rattle.binding_array.specs.declared.cell.BindingCell.TheVariants.{Atom, Compound}
use Rattle.cell_store.specs.Arguments.{HasFunctor, IsArgument, AreArguments, argument_at, arguments_from}
use Rattle.cell_store.specs.StoreView.{StoreView, IsDereferenced, meaning, substitution, text_in, value_term}
use Rattle.cell_store.specs.declared.arguments.Arguments.{Arguments}
use Rattle.cell_store.proofs.WritingLemmas.{how_many}
use Rattle.region_control.specs.GoalForms.{argument_terms, AreArgumentsIn, IsFormOf}
use Rattle.region_control.specs.declared.forms.GoalForm.{GoalForm}

-- the argument with a number, counted from 0
indexed : (s : Substitution) (code : CodeView) (next base n at i : ℕ) → i < n → AreArguments code next base n at → IsArgument code next base (at + i) × (term_at i (apply_all (value_of s) (terms_from (arguments_from code base n at))) ≡ resolve s (argument_at code base (at + i)))
indexed s code next base zero at i lt h = absurd (omega arith)
indexed s code next base (suc n) at zero lt h = let e : at ≡ at + 0 = omega arith in (subst (IsArgument code next base) e h.0, ap (λ j. resolve s (argument_at code base j)) e)
indexed s code next base (suc n) at (suc i) lt h =
    let e : at + 1 + i ≡ at + suc i = omega arith in
    let k = indexed s code next base n (at + 1) i (omega arith) h.1 in
    (subst (IsArgument code next base) e k.0, k.1 ∙ ap (λ j. resolve s (argument_at code base j)) e)

module _ (st : StoreView) (a : Arguments) (there : AreArgumentsIn st a) (i : ℕ) (some : i < a.count) where
  pub argument_there : IsArgument (text_in st) st.now.next a.base (a.at + i)
  argument_there = (indexed (substitution st) (text_in st) st.now.next a.base a.count a.at i some there.there).0

  pub argument_term : (c : BindingCell) → value_term st c ≡ argument_at (text_in st) a.base (a.at + i) → meaning st c ≡ term_at i (argument_terms st a)
  argument_term c e = ap (resolve (substitution st)) e ∙ sym (indexed (substitution st) (text_in st) st.now.next a.base a.count a.at i some there.there).1

-- the form of a compound
pub compound_form : (st : StoreView) (value : BindingCell) (at base f n : ℕ) (a : Arguments) → IsDereferenced st value (Compound at base) → HasFunctor (text_in st) st.now.next at base f n → at + n < 2 ^ 32 - 1
    → a ≡ record { at = at + 1; base = base; count = n } → IsFormOf st value (record { name = f; arguments = a })
compound_form st value at base f n a d h short e =
    let ts = apply_all (value_of (substitution st)) (terms_from (arguments_from (text_in st) base n (at + 1))) in
    let opened : CompoundTerm (name_at (text_in st).names f) ts ≡ meaning st value = sym (ap (resolve (substitution st)) h.term) ∙ d.same in
    record {
      callable = ap is_callable (sym opened);
      named = h.named;
      name = ap name_of (sym opened);
      arguments = ap arguments (sym opened) ∙ ap (argument_terms st) (sym e);
      count = ap argument_count (sym opened) ∙ (how_many (substitution st) (text_in st) base n (at + 1) ∙ ap (λ (x : Arguments). x.count) (sym e));
      there = subst (AreArgumentsIn st) (sym e) (record { there = h.arguments; short = omega (arith, short) });
    }

-- the form of one value is that of another that stands for the same
pub same_form : (st : StoreView) (a b : BindingCell) (form : GoalForm) → meaning st a ≡ meaning st b → IsFormOf st a form → IsFormOf st b form
same_form st a b form e h = record {
  callable = ap is_callable (sym e) ∙ h.callable;
  named = h.named;
  name = ap name_of (sym e) ∙ h.name;
  arguments = ap arguments (sym e) ∙ h.arguments;
  count = ap argument_count (sym e) ∙ h.count;
  there = h.there;
}

-- and of an atom
pub atom_form : (st : StoreView) (value : BindingCell) (f : ℕ) (a : Arguments) → IsDereferenced st value (Atom f) → a ≡ record { at = 0; base = 0; count = 0 } → IsFormOf st value (record { name = f; arguments = a })
atom_form st value f a d e =
    record {
      callable = ap is_callable (sym d.same);
      named = d.there;
      name = ap name_of (sym d.same);
      arguments = ap arguments (sym d.same) ∙ ap (argument_terms st) (sym e);
      count = ap argument_count (sym d.same) ∙ ap (λ (x : Arguments). x.count) (sym e);
      there = subst (AreArgumentsIn st) (sym e) (record { there = tt; short = omega arith });
    }
