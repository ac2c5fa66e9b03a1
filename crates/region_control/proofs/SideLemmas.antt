-- The name and the arguments of the compound that a value stands for.
use Rattle.std.proofs.Common.{◌≡◌, ℕ, zero, suc, ◌+◌, Bool, true, false, List, [], ◌∷◌, length, refl, sym, ap, ◌∙◌, arith}
use Rattle.std.specs.Cmp.Lexicographic.{pointwise, same_text, other_text}
use Rattle.std.specs.Prelude.{nat_eq, codes}
use Rattle.au_term.specs.Term.{Term, VarTerm, IntTerm, AtomTerm, Compound, end, more}
use Rattle.au_model.specs.Terms.Forms.{same_name, binary}
use Rattle.au_model.specs.Terms.Lists.{terms_from}
use Rattle.run_model.specs.Programs.Bodies.{goals_of}
use Rattle.clause_compile.specs.AtomNumbers.{name_at}
use Rattle.binding_array.specs.declared.cell.BindingCell.{BindingCell}
use Rattle.cell_store.specs.StoreView.{StoreView, substitution, text_in, meaning}
use Rattle.cell_store.specs.Arguments.{HasFunctor, arguments_from, resolved_terms}
use Rattle.cell_store.proofs.WalkLemmas.{opened_term}
use Rattle.region_control.specs.Sides.{HasNoSides}

two_long : (ts : List Term) (left right : Term) → terms_from ts ≡ more left (more right end) → length ts ≡ 2
two_long [] left right e = absurd cc
two_long (t ∷ []) left right e = absurd cc
two_long (t ∷ u ∷ []) left right e = refl
two_long (t ∷ u ∷ v ∷ ts) left right e = absurd cc

module _ (st : StoreView) (value reached : BindingCell) (at base f n : ℕ) (same : meaning st reached ≡ meaning st value) (is : reached ≡ BindingCell.Compound at base) (h : HasFunctor (text_in st) st.now.next at base f n) where
  abbrev arguments : List Term
  arguments = resolved_terms (substitution st) (arguments_from (text_in st) base n (at + 1))

  many : (k i : ℕ) → length (resolved_terms (substitution st) (arguments_from (text_in st) base k i)) ≡ k
  many zero i = refl
  many (suc k) i = let rest = many k (i + 1) in omega (arith, rest)

  term : meaning st value ≡ Compound (name_at (text_in st).names f) (terms_from arguments)
  term = sym same ∙ (ap (meaning st) is ∙ opened_term (substitution st) (name_at (text_in st).names f) (arguments_from (text_in st) base n (at + 1)) _ h.term)

  pub other_count : (name : List ℕ) → (n ≡ 2 → ⊥) → HasNoSides st value name
  other_count name ne left right e =
      let whole : Compound (name_at (text_in st).names f) (terms_from arguments) ≡ binary name left right = sym term ∙ e in
      let both : terms_from arguments ≡ more left (more right end) = cc in
      let two = two_long arguments left right both in
      let k = many n (at + 1) in
      ne (omega (arith, two, k))

  pub other_name : (name : List ℕ) → pointwise nat_eq (name_at (text_in st).names f) name ≡ false → HasNoSides st value name
  other_name name differs left right e =
      let whole : Compound (name_at (text_in st).names f) (terms_from arguments) ≡ binary name left right = sym term ∙ e in
      let named : name_at (text_in st).names f ≡ name = cc in
      other_text (name_at (text_in st).names f) name (sym differs) named

-- what is no conjunction is one goal
pub one_goal : (t : Term) → ((left right : Term) → t ≡ binary (codes ",") left right → ⊥) → goals_of t ≡ t ∷ []
one_goal (VarTerm n) none = refl
one_goal (IntTerm z) none = refl
one_goal (AtomTerm a) none = refl
one_goal (Compound f end) none = refl
one_goal (Compound f (more a end)) none = refl
one_goal (Compound f (more a (more b end))) none = by_name (same_name f (codes ",")) refl
  where
    by_name : (c : Bool) → same_name f (codes ",") ≡ c → goals_of (Compound f (more a (more b end))) ≡ binary f a b ∷ []
    by_name true e = absurd (none a b (ap (λ g. binary g a b) (same_text f (codes ",") (sym e))))
    by_name false e = rw e refl
one_goal (Compound f (more a (more b (more c ts)))) none = refl
