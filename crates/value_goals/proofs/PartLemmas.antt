-- Parts of what values stand for.
use Rattle.std.proofs.Common.{◌≡◌, ℕ, zero, suc, ◌+◌, ◌<◌, ◌⊎◌, inl, inr, pos, true, nat_lt, [], Ok, refl, sym, ap, ◌∙◌, subst, arith}
use Rattle.std.specs.Prelude.{if◌then◌else◌}
use Rattle.au_term.specs.Term.{Term, IntTerm, Compound as CompoundTerm, Terms, count, argument_count, term_at}
use Rattle.au_term.proofs.LogicLemmas.{less, not_less}
use Rattle.au_model.specs.Terms.Lists.{terms_from}
use Rattle.au_model.specs.Terms.Substitutions.{Substitution, resolve, apply_all, value_of}
use Rattle.run_model.specs.Goals.BuiltinAnswers.{equal}
use Rattle.run_model.specs.Goals.TermTests.{is_variable}
use Rattle.run_model.specs.Goals.TermParts.{argument_answer, functor_name}
use Rattle.clause_compile.specs.AtomNumbers.{name_at}
use Rattle.clause_compile.specs.Places.{CodeView}
use Rattle.binding_array.specs.declared.cell.BindingCell.{BindingCell}
use Rattle.binding_array.specs.declared.cell.BindingCell.TheVariants.{Atom, Compound}
use Rattle.cell_store.specs.Arguments.{HasFunctor, IsArgument, AreArguments, argument_at, arguments_from}
use Rattle.cell_store.specs.StoreView.{StoreView, IsDereferenced, IsValueIn, meaning, value_term, substitution, text_in}
use Rattle.cell_store.proofs.WritingLemmas.{how_many}
use Rattle.value_goals.specs.Parts.{IsFunctorOf, IsArgumentOf}

-- the argument with a number, counted from 0
indexed : (s : Substitution) (code : CodeView) (next base n at i : ℕ) → i < n → AreArguments code next base n at → IsArgument code next base (at + i) × (term_at i (apply_all (value_of s) (terms_from (arguments_from code base n at))) ≡ resolve s (argument_at code base (at + i)))
indexed s code next base zero at i lt h = absurd (omega arith)
indexed s code next base (suc n) at zero lt h = let e : at ≡ at + 0 = omega arith in (subst (IsArgument code next base) e h.0, ap (λ j. resolve s (argument_at code base j)) e)
indexed s code next base (suc n) at (suc i) lt h =
    let e : at + 1 + i ≡ at + suc i = omega arith in
    let k = indexed s code next base n (at + 1) i (omega arith) h.1 in
    (subst (IsArgument code next base) e k.0, k.1 ∙ ap (λ j. resolve s (argument_at code base j)) e)

module _ (st : StoreView) (value : BindingCell) (at base f n : ℕ) (d : IsDereferenced st value (Compound at base)) (h : HasFunctor (text_in st) st.now.next at base f n) where
  abbrev ts : Terms
  ts = apply_all (value_of (substitution st)) (terms_from (arguments_from (text_in st) base n (at + 1)))

  abbrev t : Term
  t = CompoundTerm (name_at (text_in st).names f) ts

  opened : t ≡ meaning st value
  opened = sym (ap (resolve (substitution st)) h.term) ∙ d.same

  pub compound_functor : IsFunctorOf st value (Atom f, n)
  compound_functor = record {
    bound = ap is_variable (sym opened);
    there = h.named;
    name = ap functor_name opened;
    count = sym (how_many (substitution st) (text_in st) base n (at + 1)) ∙ ap argument_count opened;
  }

  pub argument_there : (number : ℕ) → (number ≡ 0 → ⊥) → (n < number → ⊥) → IsArgument (text_in st) st.now.next base (at + number)
  argument_there zero p le = absurd (p refl)
  argument_there (suc i) p le =
      let few : i < n = omega arith in
      let e : at + 1 + i ≡ at + suc i = omega arith in
      subst (IsArgument (text_in st) st.now.next base) e (indexed (substitution st) (text_in st) st.now.next base n (at + 1) i few h.arguments).0

  pub argument_found : (number : ℕ) (c : BindingCell) → (number ≡ 0 → ⊥) → (n < number → ⊥) → value_term st c ≡ argument_at (text_in st) base (at + number) → IsValueIn st c → IsArgumentOf st number value c
  argument_found zero c p le e v = absurd (p refl)
  argument_found (suc i) c p le e v =
      let few : i < n = omega arith in
      let next : at + 1 + i ≡ at + suc i = omega arith in
      let counted : nat_lt i (count ts) ≡ true = ap (nat_lt i) (how_many (substitution st) (text_in st) base n (at + 1)) ∙ less i n few in
      let same : term_at i ts ≡ meaning st c = (indexed (substitution st) (text_in st) st.now.next base n (at + 1) i few h.arguments).1 ∙ (ap (λ j. resolve (substitution st) (argument_at (text_in st) base j)) next ∙ ap (resolve (substitution st)) (sym e)) in
      record {
        there = v;
        answer = λ x. ap (λ u. argument_answer (IntTerm (pos (suc i))) u x) (sym opened) ∙ (ap (λ b. if b then equal x (term_at i ts) else Ok []) counted ∙ ap (equal x) same);
      }

  pub argument_missing : (number : ℕ) → (number ≡ 0) ⊎ (n < number) → (x : Term) → argument_answer (IntTerm (pos number)) (meaning st value) x ≡ Ok []
  argument_missing zero h x = ap (λ u. argument_answer (IntTerm (pos 0)) u x) (sym opened)
  argument_missing (suc i) h x =
      ap (λ u. argument_answer (IntTerm (pos (suc i))) u x) (sym opened)
      ∙ ap (λ b. if b then equal x (term_at i ts) else Ok []) (ap (nat_lt i) (how_many (substitution st) (text_in st) base n (at + 1)) ∙ not_less i n (elim h [ inl e ↦ absurd (omega arith) | inr lt ↦ omega arith ]))
