-- Numbers of goals that are values.
use Rattle.std.proofs.Common.{◌≡◌, ℕ, zero, suc, ◌+◌, ◌<◌, List, Option, Some, None, refl, sym, ap, ◌∙◌, subst, arith}
use Rattle.std.specs.Prelude.{IfSome}
use Rattle.au_term.specs.Term.{Compound as CompoundTerm, Terms, count, term_at, argument, argument_count}
use Rattle.au_model.specs.Terms.Forms.{name_of, is_callable}
use Rattle.au_model.specs.Terms.Lists.{terms_from}
use Rattle.au_model.specs.Terms.Substitutions.{resolve, apply_all, value_of}
use Rattle.clause_compile.specs.AtomNumbers.{name_at}
use Rattle.proc_index.specs.Keys.{key_of, head_key, first_key_of}
use Rattle.proc_index.specs.declared.key.Key.{Key}
use Rattle.proc_index.specs.declared.key.Key.TheVariants.{Functor as FunctorKey}
use Rattle.clause_index.specs.HeadKeys.{IsHeadKeyOf, IsKeyAmong, named_key}
use Rattle.clause_index.specs.declared.key.NumberKey.{NumberKey}
use Rattle.binding_array.specs.declared.cell.BindingCell.{BindingCell}
use Rattle.binding_array.specs.declared.cell.BindingCell.TheVariants.{Var, Atom, Compound}
use Rattle.cell_store.specs.Arguments.{HasFunctor, IsArgument, AreArguments, argument_at, arguments_from}
use Rattle.cell_store.specs.StoreView.{StoreView, IsDereferenced, meaning, value_term, substitution, text_in}
use Rattle.cell_store.proofs.WritingLemmas.{how_many}

-- an argument of a compound, counted from 0
indexed : (st : StoreView) (next base n at i : ℕ) → i < n → AreArguments (text_in st) next base n at
    → IsArgument (text_in st) next base (at + i) × (term_at i (apply_all (value_of (substitution st)) (terms_from (arguments_from (text_in st) base n at))) ≡ resolve (substitution st) (argument_at (text_in st) base (at + i)))
indexed st next base zero at i lt h = absurd (omega arith)
indexed st next base (suc n) at zero lt h = let e : at ≡ at + 0 = omega arith in (subst (IsArgument (text_in st) next base) e h.0, ap (λ j. resolve (substitution st) (argument_at (text_in st) base j)) e)
indexed st next base (suc n) at (suc i) lt h =
    let e : at + 1 + i ≡ at + suc i = omega arith in
    let k = indexed st next base n (at + 1) i (omega arith) h.1 in
    (subst (IsArgument (text_in st) next base) e k.0, k.1 ∙ ap (λ j. resolve (substitution st) (argument_at (text_in st) base j)) e)

-- a value that is no bound variable
pub variable_key : (st : StoreView) (value : BindingCell) (v : ℕ) → IsDereferenced st value (Var v) → named_key (text_in st).names None ≡ key_of (meaning st value)
variable_key st value v d = ap key_of (sym d.unbound) ∙ ap key_of d.same

module _ (st : StoreView) (value : BindingCell) (at base f n : ℕ) (d : IsDereferenced st value (Compound at base)) (h : HasFunctor (text_in st) st.now.next at base f n) where
  abbrev ts : Terms
  ts = apply_all (value_of (substitution st)) (terms_from (arguments_from (text_in st) base n (at + 1)))

  opened : CompoundTerm (name_at (text_in st).names f) ts ≡ meaning st value
  opened = sym (ap (resolve (substitution st)) h.term) ∙ d.same

  counted : n ≡ count ts
  counted = sym (how_many (substitution st) (text_in st) base n (at + 1))

  pub compound_key : FunctorKey (name_at (text_in st).names f) n ≡ key_of (meaning st value)
  compound_key = ap (FunctorKey (name_at (text_in st).names f)) counted ∙ ap key_of opened

  pub first_there : IsArgument (text_in st) st.now.next base (at + 1)
  first_there = by_count n h.arity.0 h.arguments
    where
      by_count : (k : ℕ) → 0 < k → AreArguments (text_in st) st.now.next base k (at + 1) → IsArgument (text_in st) st.now.next base (at + 1)
      by_count zero lt a = absurd (omega arith)
      by_count (suc k) lt a = a.0

  first_key : (first : BindingCell) → value_term st first ≡ argument_at (text_in st) base (at + 1) → key_of (meaning st first) ≡ head_key (meaning st value)
  first_key first e = by_count n h.arity.0 refl ∙ ap head_key opened
    where
      by_count : (k : ℕ) → 0 < k → n ≡ k → key_of (meaning st first) ≡ first_key_of ts
      by_count zero lt s = absurd (omega arith)
      by_count (suc k) lt s = ap (λ t. key_of (resolve (substitution st) t)) e ∙ sym (ap (λ m. first_key_of (apply_all (value_of (substitution st)) (terms_from (arguments_from (text_in st) base m (at + 1))))) s)

  -- the argument with a number, and its key
  pub further_there : (i : ℕ) → i < n → IsArgument (text_in st) st.now.next base (at + 1 + i)
  further_there i lt = (indexed st st.now.next base n (at + 1) i lt h.arguments).0

  pub further_within : (i : ℕ) → i < n → i < argument_count (meaning st value)
  further_within i lt = subst (λ m. i < m) (counted ∙ ap argument_count opened) lt

  pub further_argument : (i : ℕ) (found : BindingCell) → i < n → value_term st found ≡ argument_at (text_in st) base (at + 1 + i) → meaning st found ≡ argument i (meaning st value)
  further_argument i found lt e = ap (resolve (substitution st)) e ∙ (sym (indexed st st.now.next base n (at + 1) i lt h.arguments).1 ∙ ap (argument i) opened)

  pub further_key : (i : ℕ) (found : BindingCell) → i < n → value_term st found ≡ argument_at (text_in st) base (at + 1 + i) → key_of (meaning st found) ≡ key_of (argument i (meaning st value))
  further_key i found lt e = ap key_of (further_argument i found lt e)

  pub compound_numbers : (first : BindingCell) (o : Option NumberKey) → value_term st first ≡ argument_at (text_in st) base (at + 1) → IsKeyAmong (text_in st).names o → named_key (text_in st).names o ≡ key_of (meaning st first)
      → IsHeadKeyOf (text_in st).names (meaning st value) (record { name = f; arity = n; first = o })
  compound_numbers first o e there key =
      record {
        callable = ap is_callable (sym opened);
        name_there = h.named;
        name = ap name_of opened;
        arity = counted ∙ ap argument_count opened;
        key_there = there;
        first = key ∙ first_key first e;
      }

-- a key that is there is that of a term
pub if_some_key : (names : List (List ℕ)) (o : Option NumberKey) (k : Key) → named_key names o ≡ k → IfSome o (λ key. named_key names (Some key) ≡ k)
if_some_key names None k e = tt
if_some_key names (Some key) k e = e

pub atom_numbers : (st : StoreView) (value : BindingCell) (a : ℕ) → IsDereferenced st value (Atom a) → IsHeadKeyOf (text_in st).names (meaning st value) (record { name = a; arity = 0; first = None })
atom_numbers st value a d = subst (λ t. IsHeadKeyOf (text_in st).names t (record { name = a; arity = 0; first = None })) d.same (record { callable = refl; name_there = d.there; name = refl; arity = refl; key_there = tt; first = refl })
