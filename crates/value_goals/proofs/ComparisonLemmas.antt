-- Terms compared pair by pair.
use Rattle.std.proofs.Common.{◌≡◌, ℕ, zero, suc, ◌+◌, ◌-◌, ◌<◌, ◌≤◌, ℤ, List, ◌∷◌, Bool, true, false, ◌&&◌, eqb, nat_eq, length, refl, sym, ap, ap₂, ◌∙◌, subst, arith}
use Rattle.std.specs.declared.cmp.Ordering.{Ordering}
use Rattle.std.specs.declared.cmp.Ordering.TheVariants.{Less, Equal, Greater}
use Rattle.std.specs.Ordering.{nat_cmp, ordering_then, is_eq, is_ne}
use Rattle.std.specs.Cmp.Lexicographic.{slice_cmp}
use Rattle.std.proofs.lemmas.Bool.Decides.{nat_tests}
use Rattle.std.proofs.lemmas.Cmp.{tied_itself, nat_cmp_total, nat_list_cmp_total}
use Rattle.au_term.specs.Term.{Term, VarTerm, IntTerm, AtomTerm, Compound as CompoundTerm, Terms}
use Rattle.au_model.specs.Terms.Lists.{terms_from}
use Rattle.au_model.specs.Terms.EquationsInTurn.{resolved_equations}
use Rattle.au_model.specs.Terms.Substitutions.{Substitution, resolve, apply_all, value_of}
use Rattle.au_model.specs.Terms.Unifier.{Equations as Pairs, size, size_all}
use Rattle.au_model.proofs.UnifierMeasureLemmas.{size_pos}
use Rattle.run_model.specs.Goals.StandardOrder.{order, order_all}
use Rattle.term_order.proofs.CellOrder.{same_number}
use Rattle.term_order.proofs.TermOrder.{terms_total, same_term}
use Rattle.clause_compile.specs.AtomNumbers.{name_at, AreDistinct}
use Rattle.clause_compile.specs.Places.{CodeView}
use Rattle.binding_array.specs.declared.cell.BindingCell.{BindingCell}
use Rattle.binding_array.specs.declared.cell.BindingCell.TheVariants.{Free, Var, Int, Atom, Compound}
use Rattle.cell_store.specs.Arguments.{HasFunctor, IsArgument, AreArguments, AreThere, argument_at, arguments_from, arguments_in}
use Rattle.cell_store.specs.StoreView.{StoreView, IsDereferenced, meaning, compound_meaning, value_term, substitution, text_in}
use Rattle.cell_store.specs.UnificationSteps.{AllEquations, equations_in, paired}
use Rattle.cell_store.specs.declared.arguments.Arguments.{Arguments}
use Rattle.cell_store.specs.declared.arguments.Equations.{Equations}
use Rattle.cell_store.proofs.WritingLemmas.{how_many}
use Rattle.value_goals.specs.Comparison.{order_of_pairs, left_size, argument_pairs, size_of_all, AreSides, kind_number, OpensInto, Enters}
use Rattle.value_goals.proofs.TopLemmas.{told}

-- terms of different kinds
term_kind : Term → ℕ
term_kind (VarTerm n) = 0
term_kind (IntTerm z) = 1
term_kind (AtomTerm a) = 2
term_kind (CompoundTerm f ts) = 3

kinds_differ : (t u : Term) → (term_kind t ≡ term_kind u → ⊥) → nat_cmp (term_kind t) (term_kind u) ≡ order t u
unfolding term_kind
kinds_differ (VarTerm m) (VarTerm n) h = absurd (h refl)
kinds_differ (VarTerm m) (IntTerm z) h = refl
kinds_differ (VarTerm m) (AtomTerm b) h = refl
kinds_differ (VarTerm m) (CompoundTerm g us) h = refl
kinds_differ (IntTerm y) (VarTerm n) h = refl
kinds_differ (IntTerm y) (IntTerm z) h = absurd (h refl)
kinds_differ (IntTerm y) (AtomTerm b) h = refl
kinds_differ (IntTerm y) (CompoundTerm g us) h = refl
kinds_differ (AtomTerm a) (VarTerm n) h = refl
kinds_differ (AtomTerm a) (IntTerm z) h = refl
kinds_differ (AtomTerm a) (AtomTerm b) h = absurd (h refl)
kinds_differ (AtomTerm a) (CompoundTerm g us) h = refl
kinds_differ (CompoundTerm f ts) (VarTerm n) h = refl
kinds_differ (CompoundTerm f ts) (IntTerm z) h = refl
kinds_differ (CompoundTerm f ts) (AtomTerm b) h = refl
kinds_differ (CompoundTerm f ts) (CompoundTerm g us) h = absurd (h refl)

kind_told : (st : StoreView) (value c : BindingCell) → IsDereferenced st value c → kind_number c ≡ term_kind (meaning st value)
unfolding term_kind
kind_told st value c d = told st term_kind (kind_number c) value c d (λ v e. ap kind_number e) (λ z e. ap kind_number e) (λ a name e. ap kind_number e) (λ at base f ts e. ap kind_number e)

pub by_kind : (st : StoreView) (v w l r : BindingCell) → IsDereferenced st v l → IsDereferenced st w r → (kind_number l ≡ kind_number r → ⊥) → nat_cmp (kind_number l) (kind_number r) ≡ order (meaning st v) (meaning st w)
by_kind st v w l r d e h =
    let k = kind_told st v l d in
    let j = kind_told st w r e in
    ap₂ nat_cmp k j ∙ kinds_differ (meaning st v) (meaning st w) (λ q. h (k ∙ (q ∙ sym j)))

-- values of which the left one alone is of a kind
pub not_variable : (m : ℕ) (l r : BindingCell) → l ≡ Var m → ((n : ℕ) → r ≡ Var n → ⊥) → kind_number l ≡ kind_number r → ⊥
not_variable m l r e h k = by r h (ap kind_number (sym e) ∙ k)
  where
    by : (c : BindingCell) → ((n : ℕ) → c ≡ Var n → ⊥) → 0 ≡ kind_number c → ⊥
    by Free h k = absurd (omega arith)
    by (Var n) h k = h n refl
    by (Int z) h k = absurd (omega arith)
    by (Atom a) h k = absurd (omega arith)
    by (Compound at base) h k = absurd (omega arith)

pub not_integer : (y : ℤ) (l r : BindingCell) → l ≡ Int y → ((z : ℤ) → r ≡ Int z → ⊥) → kind_number l ≡ kind_number r → ⊥
not_integer y l r e h k = by r h (ap kind_number (sym e) ∙ k)
  where
    by : (c : BindingCell) → ((z : ℤ) → c ≡ Int z → ⊥) → 1 ≡ kind_number c → ⊥
    by Free h k = absurd (omega arith)
    by (Var n) h k = absurd (omega arith)
    by (Int z) h k = h z refl
    by (Atom a) h k = absurd (omega arith)
    by (Compound at base) h k = absurd (omega arith)

pub not_atom : (a : ℕ) (l r : BindingCell) → l ≡ Atom a → ((b : ℕ) → r ≡ Atom b → ⊥) → kind_number l ≡ kind_number r → ⊥
not_atom a l r e h k = by r h (ap kind_number (sym e) ∙ k)
  where
    by : (c : BindingCell) → ((b : ℕ) → c ≡ Atom b → ⊥) → 2 ≡ kind_number c → ⊥
    by Free h k = absurd (omega arith)
    by (Var n) h k = absurd (omega arith)
    by (Int z) h k = absurd (omega arith)
    by (Atom b) h k = h b refl
    by (Compound at base) h k = absurd (omega arith)

pub not_compound : (at base : ℕ) (l r : BindingCell) → l ≡ Compound at base → ((to over : ℕ) → r ≡ Compound to over → ⊥) → kind_number l ≡ kind_number r → ⊥
not_compound at base l r e h k = by r h (ap kind_number (sym e) ∙ k)
  where
    by : (c : BindingCell) → ((to over : ℕ) → c ≡ Compound to over → ⊥) → 3 ≡ kind_number c → ⊥
    by Free h k = absurd (omega arith)
    by (Var n) h k = absurd (omega arith)
    by (Int z) h k = absurd (omega arith)
    by (Atom a) h k = absurd (omega arith)
    by (Compound to over) h k = h to over refl

pub order_itself : (t : Term) → order t t ≡ Equal
order_itself t = tied_itself terms_total t

pub same_places : (st : StoreView) (l r : ℕ × ℕ) → true ≡ (eqb l.0 r.0 && eqb l.1 r.1) → Equal ≡ order (compound_meaning st l) (compound_meaning st r)
same_places st l r h =
    let ats : l.0 ≡ r.0 = grind (arith, nat_tests) in
    let bases : l.1 ≡ r.1 = grind (arith, nat_tests) in
    sym (order_itself (compound_meaning st l)) ∙ ap₂ (λ i j. order (compound_meaning st l) (meaning st (Compound i j))) ats bases

pub is_ne_decides : (o : Ordering) → is_ne o ≡ true → o ≡ Equal → ⊥
is_ne_decides o h e = let k : is_ne Equal ≡ true = ap is_ne (sym e) ∙ h in cc

pub not_ne_equal : (o : Ordering) → (is_ne o ≡ true → ⊥) → o ≡ Equal
not_ne_equal Less h = absurd (h refl)
not_ne_equal Equal h = refl
not_ne_equal Greater h = absurd (h refl)

first_decides : (o p : Ordering) → (o ≡ Equal → ⊥) → ordering_then o p ≡ o
first_decides Less p h = refl
first_decides Equal p h = absurd (h refl)
first_decides Greater p h = refl

-- as many arguments on either side
paired_order : (s : Substitution) (code : CodeView) (base over m n at to : ℕ) → m ≡ n → order_of_pairs (resolved_equations s (paired (arguments_from code base m at) (arguments_from code over n to))) ≡ order_all (apply_all (value_of s) (terms_from (arguments_from code base m at))) (apply_all (value_of s) (terms_from (arguments_from code over n to)))
paired_order s code base over zero zero at to e = refl
paired_order s code base over zero (suc n) at to e = absurd (omega arith)
paired_order s code base over (suc m) zero at to e = absurd (omega arith)
paired_order s code base over (suc m) (suc n) at to e = ap (ordering_then (order (resolve s (argument_at code base at)) (resolve s (argument_at code over to)))) (paired_order s code base over m n (at + 1) (to + 1) (omega arith))

paired_size : (s : Substitution) (code : CodeView) (base over m n at to : ℕ) → m ≡ n → left_size (resolved_equations s (paired (arguments_from code base m at) (arguments_from code over n to))) ≡ size_all (apply_all (value_of s) (terms_from (arguments_from code base m at)))
paired_size s code base over zero zero at to e = refl
paired_size s code base over zero (suc n) at to e = absurd (omega arith)
paired_size s code base over (suc m) zero at to e = absurd (omega arith)
paired_size s code base over (suc m) (suc n) at to e = ap (λ k. size (resolve s (argument_at code base at)) + k) (paired_size s code base over m n (at + 1) (to + 1) (omega arith))

-- of compounds
module _ (st : StoreView) (at base f m to over g n : ℕ) (left : HasFunctor (text_in st) st.now.next at base f m) (right : HasFunctor (text_in st) st.now.next to over g n) where
  abbrev s : Substitution
  s = substitution st

  abbrev code : CodeView
  code = text_in st

  abbrev ts : Terms
  ts = apply_all (value_of s) (terms_from (arguments_from code base m (at + 1)))

  abbrev us : Terms
  us = apply_all (value_of s) (terms_from (arguments_from code over n (to + 1)))

  by_parts : ordering_then (nat_cmp m n) (ordering_then (slice_cmp nat_cmp (name_at code.names f) (name_at code.names g)) (order_all ts us)) ≡ order (meaning st (Compound at base)) (meaning st (Compound to over))
  by_parts =
      ap₂ (λ j k. ordering_then (nat_cmp j k) (ordering_then (slice_cmp nat_cmp (name_at code.names f) (name_at code.names g)) (order_all ts us))) (sym (how_many s code base m (at + 1))) (sym (how_many s code over n (to + 1)))
      ∙ sym (ap₂ order (ap (resolve s) left.term) (ap (resolve s) right.term))

  pub counts_decide : (m ≡ n → ⊥) → nat_cmp m n ≡ order (meaning st (Compound at base)) (meaning st (Compound to over))
  counts_decide h = sym (first_decides (nat_cmp m n) (ordering_then (slice_cmp nat_cmp (name_at code.names f) (name_at code.names g)) (order_all ts us)) (λ q. h (same_number m n q))) ∙ by_parts

  same_counts : m ≡ n → ordering_then (slice_cmp nat_cmp (name_at code.names f) (name_at code.names g)) (order_all ts us) ≡ order (meaning st (Compound at base)) (meaning st (Compound to over))
  same_counts e =
      let tied : nat_cmp m n ≡ Equal = ap (nat_cmp m) (sym e) ∙ tied_itself nat_cmp_total m in
      ap (λ o. ordering_then o (ordering_then (slice_cmp nat_cmp (name_at code.names f) (name_at code.names g)) (order_all ts us))) (sym tied) ∙ by_parts

  pub names_decide : (o : Ordering) → m ≡ n → o ≡ slice_cmp nat_cmp (name_at code.names f) (name_at code.names g) → (o ≡ Equal → ⊥) → o ≡ order (meaning st (Compound at base)) (meaning st (Compound to over))
  names_decide o e is h = sym (first_decides o (order_all ts us) h) ∙ (ap (λ p. ordering_then p (order_all ts us)) is ∙ same_counts e)

  pub arguments_decide : (x y : Arguments) → m ≡ n → Equal ≡ slice_cmp nat_cmp (name_at code.names f) (name_at code.names g) → x ≡ record { at = at + 1; base = base; count = m } → y ≡ record { at = to + 1; base = over; count = m }
      → OpensInto st (order (meaning st (Compound at base)) (meaning st (Compound to over))) (size (meaning st (Compound at base))) (record { left = x; right = y })
  arguments_decide x y e is l r =
      let p = left.arity.0 in
      let listed : paired (arguments_in code x) (arguments_in code y) ≡ paired (arguments_from code base m (at + 1)) (arguments_from code over n (to + 1)) =
      ap₂ (λ u v. paired (arguments_in code u) (arguments_in code v)) l r ∙ ap (λ k. paired (arguments_from code base m (at + 1)) (arguments_from code over k (to + 1))) e in
      record {
        same = ap (λ es. order_of_pairs (resolved_equations s es)) listed ∙ (paired_order s code base over m n (at + 1) (to + 1) e ∙ (ap (λ o. ordering_then o (order_all ts us)) is ∙ same_counts e));
        there = record {
          left = subst (AreThere code st.now.next) (sym l) (p, left.arguments);
          right = subst (AreThere code st.now.next) (sym r) (p, subst (λ k. AreArguments code st.now.next over k (to + 1)) (sym e) right.arguments);
          as_many = ap (λ (z : Arguments). z.count) l ∙ sym (ap (λ (z : Arguments). z.count) r);
        };
        fewer = omega (arith, ap (λ es. left_size (resolved_equations s es)) listed, paired_size s code base over m n (at + 1) (to + 1) e, ap (λ t. size (resolve s t)) left.term);
      }

pub same_names : (names : List (List ℕ)) (a b : ℕ) → a ≡ b → Equal ≡ slice_cmp nat_cmp (name_at names a) (name_at names b)
same_names names a b e = sym (tied_itself nat_list_cmp_total (name_at names a)) ∙ ap (λ i. slice_cmp nat_cmp (name_at names a) (name_at names i)) e

equal_numbers : (a b : ℕ) → nat_eq a b ≡ true → a ≡ b
equal_numbers a b h = grind (arith, nat_tests)

numbers_equal : (a b : ℕ) → a ≡ b → nat_eq a b ≡ true
numbers_equal a b e = grind (arith, nat_tests)

-- names that are distinct are told apart by their numbers
pub one_name : (names : List (List ℕ)) (a b : ℕ) → AreDistinct names → a < length names → b < length names → nat_eq a b ≡ is_eq (slice_cmp nat_cmp (name_at names a) (name_at names b))
one_name names a b distinct p q = by (nat_eq a b) (slice_cmp nat_cmp (name_at names a) (name_at names b)) refl refl
  where
    by : (t : Bool) (o : Ordering) → nat_eq a b ≡ t → slice_cmp nat_cmp (name_at names a) (name_at names b) ≡ o → t ≡ is_eq o
    by true o e h = ap is_eq (same_names names a b (equal_numbers a b e) ∙ h)
    by false Less e h = refl
    by false Equal e h =
        let terms : AtomTerm (name_at names a) ≡ AtomTerm (name_at names b) = same_term (AtomTerm (name_at names a)) (AtomTerm (name_at names b)) h in
        let texts : name_at names a ≡ name_at names b = cc in
        sym e ∙ numbers_equal a b (distinct a b p q texts)
    by false Greater e h = refl

-- arguments one after another
pub first_there : (st : StoreView) (e : Equations) → 0 < e.left.count → AreSides st e → IsArgument (text_in st) st.now.next e.left.base e.left.at × IsArgument (text_in st) st.now.next e.right.base e.right.at
first_there st e p h = (by_count e.left.base e.left.at e.left.count p h.left, by_count e.right.base e.right.at e.right.count (omega (arith, h.as_many)) h.right)
  where
    by_count : (base at n : ℕ) → 0 < n → AreArguments (text_in st) st.now.next base n at → IsArgument (text_in st) st.now.next base at
    by_count base at zero p k = absurd (omega arith)
    by_count base at (suc n) p k = k.0

-- the first arguments and the others
module _ (st : StoreView) (e f : Equations) (l r : BindingCell) (some : 0 < e.left.count) (sides : AreSides st e) (fl : f.left ≡ record { at = e.left.at + 1; base = e.left.base; count = e.left.count - 1 }) (fr : f.right ≡ record { at = e.right.at + 1; base = e.right.base; count = e.right.count - 1 })
    (tl : value_term st l ≡ argument_at (text_in st) e.left.base e.left.at) (tr : value_term st r ≡ argument_at (text_in st) e.right.base e.right.at) where
  first_pair : (n : ℕ) → e.left.count ≡ n → (argument_pairs st e ≡ (meaning st l, meaning st r) ∷ argument_pairs st f) × AreSides st f
  first_pair zero q = absurd (omega arith)
  first_pair (suc n) q =
      let right_count : e.right.count ≡ suc n = sym sides.as_many ∙ q in
      let left_args = subst (λ m. AreArguments (text_in st) st.now.next e.left.base m e.left.at) q sides.left in
      let right_args = subst (λ m. AreArguments (text_in st) st.now.next e.right.base m e.right.at) right_count sides.right in
      let left_is : f.left ≡ record { at = e.left.at + 1; base = e.left.base; count = n } = fl ∙ ap (λ m. (let x : Arguments = record { at = e.left.at + 1; base = e.left.base; count = m } in x)) (omega arith) in
      let right_is : f.right ≡ record { at = e.right.at + 1; base = e.right.base; count = n } = fr ∙ ap (λ m. (let x : Arguments = record { at = e.right.at + 1; base = e.right.base; count = m } in x)) (omega arith) in
      let here : equations_in (text_in st) f ≡ paired (arguments_from (text_in st) e.left.base n (e.left.at + 1)) (arguments_from (text_in st) e.right.base n (e.right.at + 1)) = ap₂ (λ u v. paired (arguments_in (text_in st) u) (arguments_in (text_in st) v)) left_is right_is in
      let whole : equations_in (text_in st) e ≡ paired (arguments_from (text_in st) e.left.base (suc n) e.left.at) (arguments_from (text_in st) e.right.base (suc n) e.right.at) = ap₂ (λ u v. paired (arguments_from (text_in st) e.left.base u e.left.at) (arguments_from (text_in st) e.right.base v e.right.at)) q right_count in (
        ap (resolved_equations (substitution st)) whole ∙ (ap₂ (λ t u. (resolve (substitution st) t, resolve (substitution st) u) ∷ resolved_equations (substitution st) (paired (arguments_from (text_in st) e.left.base n (e.left.at + 1)) (arguments_from (text_in st) e.right.base n (e.right.at + 1)))) (sym tl) (sym tr) ∙ ap (λ es. (meaning st l, meaning st r) ∷ resolved_equations (substitution st) es) (sym here)),
        record {
          left = subst (λ (x : Arguments). AreArguments (text_in st) st.now.next x.base x.count x.at) (sym left_is) left_args.1;
          right = subst (λ (x : Arguments). AreArguments (text_in st) st.now.next x.base x.count x.at) (sym right_is) right_args.1;
          as_many = ap (λ (x : Arguments). x.count) left_is ∙ sym (ap (λ (x : Arguments). x.count) right_is);
        },
      )

  -- they were compared
  module _ (ps : Pairs) (same : order_of_pairs (argument_pairs st e) ≡ order_of_pairs ps) (fewer : left_size (argument_pairs st e) ≤ left_size ps) where
    split : (argument_pairs st e ≡ (meaning st l, meaning st r) ∷ argument_pairs st f) × AreSides st f
    split = first_pair e.left.count refl

    turned_out : ordering_then (order (meaning st l) (meaning st r)) (order_of_pairs (argument_pairs st f)) ≡ order_of_pairs ps
    turned_out = sym (ap order_of_pairs split.0) ∙ same

    pub pair_equal : Equal ≡ order (meaning st l) (meaning st r) → (order_of_pairs (argument_pairs st f) ≡ order_of_pairs ps) × AreSides st f × (left_size (argument_pairs st f) ≤ left_size ps)
    pair_equal h = (ap (λ o. ordering_then o (order_of_pairs (argument_pairs st f))) h ∙ turned_out, split.1, omega (arith, ap left_size split.0))

    pub pair_differs : (o : Ordering) → o ≡ order (meaning st l) (meaning st r) → (o ≡ Equal → ⊥) → o ≡ order_of_pairs ps
    pair_differs o h d = sym (first_decides o (order_of_pairs (argument_pairs st f)) d) ∙ (ap (λ p. ordering_then p (order_of_pairs (argument_pairs st f))) h ∙ turned_out)

    pub pair_enters : (d : Equations) → OpensInto st (order (meaning st l) (meaning st r)) (size (meaning st l)) d → Enters st ps d f
    pair_enters d h = record {
      same = ap (λ o. ordering_then o (order_of_pairs (argument_pairs st f))) h.same ∙ turned_out;
      there = h.there;
      rest_there = split.1;
      fewer = omega (arith, h.fewer, ap left_size split.0);
    }

-- arguments that are gone over, and those that wait
pub popped_smaller : (st : StoreView) (inside e : Equations) (pending rest : List Equations) → AllEquations (text_in st) st.now.next (inside ∷ pending) → pending ≡ e ∷ rest → size_of_all st (e ∷ rest) < size_of_all st (inside ∷ pending)
popped_smaller st inside e pending rest there k = omega (arith, by_count inside.left.count inside.right.count there.0.left.0 there.0.as_many, ap (size_of_all st) k)
  where
    by_count : (m n : ℕ) → 0 < m → m ≡ n → 0 < left_size (resolved_equations (substitution st) (paired (arguments_from (text_in st) inside.left.base m inside.left.at) (arguments_from (text_in st) inside.right.base n inside.right.at)))
    by_count zero n p e = absurd (omega arith)
    by_count (suc m) zero p e = absurd (omega arith)
    by_count (suc m) (suc n) p e = omega (arith, size_pos (resolve (substitution st) (argument_at (text_in st) inside.left.base inside.left.at)))
