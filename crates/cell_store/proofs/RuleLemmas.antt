-- The rule for two values.
use Rattle.std.proofs.Common.{◌≡◌, ℕ, ℤ, zero, suc, ◌+◌, ◌-◌, ◌<◌, ◌≤◌, List, [], ◌∷◌, ◌++◌, true, false, ◌&&◌, cond, ◌==◌, nat_eq, nat_lt, refl, sym, ap, ap₂, ◌∙◌, subst, arith}
use Rattle.std.specs.Cmp.Lexicographic.{pointwise}
use Rattle.std.proofs.lemmas.Bool.Decides.{nat_tests}
use Rattle.au_term.specs.Term.{Term, VarTerm, IntTerm, AtomTerm, Terms, count}
use Rattle.au_term.proofs.LogicLemmas.{and-false, less, not_equal, number_turned, not_less}
use Rattle.au_model.specs.Terms.Lists.{terms_from}
use Rattle.au_model.specs.Terms.Substitutions.{Substitution, resolve}
use Rattle.au_model.specs.Terms.Unifier.{Dropped, Replaced, Opened, Clash, rule, pairs, variable_rule}
use Rattle.au_model.specs.Terms.EquationsInTurn.{resolved_equations}
use Rattle.clause_compile.specs.AtomNumbers.{name_at}
use Rattle.clause_compile.specs.Places.{CodeView}
use Rattle.binding_array.specs.declared.cell.BindingCell.{BindingCell}
use Rattle.binding_array.specs.declared.cell.BindingCell.TheVariants.{Free, Var, Int, Atom, Compound}
use Rattle.cell_store.specs.Values.{IsNoVariable}
use Rattle.cell_store.specs.ArgumentSteps.{IsConstant}
use Rattle.cell_store.specs.StoreView.{StoreView, substitution, meaning, value_term, text_in, IsValueIn, BindsFurther}
use Rattle.cell_store.specs.Arguments.{argument_at, arguments_from, arguments_in, AreArguments, HasFunctor, AreThere, resolved_terms}
use Rattle.cell_store.specs.UnificationSteps.{paired, equations_in, pending_equations, FollowsRule, after_binding, after_opening, TakesRule, IsBoundOr, HasRestEquations, KeepsRestEquations}
use Rattle.cell_store.specs.declared.arguments.Arguments.{Arguments}
use Rattle.cell_store.specs.declared.arguments.Equations.{Equations as ArgumentEquations}
use Rattle.cell_store.specs.declared.unify.Outcome.{Outcome}
use Rattle.cell_store.specs.declared.unify.Outcome.TheVariants.{Clash as ClashOutcome, Solved, Inside}
use Rattle.cell_store.proofs.CellMeaningLemmas.{IsCompound, compound, means_compound}
use Rattle.cell_store.proofs.SubstitutionLemmas.{resolved_compound}
use Rattle.cell_store.proofs.WalkLemmas.{opened_term}

-- of two variables
pub right_bound : (m n : ℕ) → m < n → rule (VarTerm m) (VarTerm n) ≡ Replaced n (VarTerm m)
right_bound m n lt = ap (λ b. cond b Dropped (cond (nat_lt m n) (Replaced n (VarTerm m)) (Replaced m (VarTerm n)))) (not_equal m n lt) ∙ ap (λ b. cond b (Replaced n (VarTerm m)) (Replaced m (VarTerm n))) (less m n lt)

pub left_bound : (m n : ℕ) → n < m → rule (VarTerm m) (VarTerm n) ≡ Replaced m (VarTerm n)
left_bound m n lt =
    ap (λ b. cond b Dropped (cond (nat_lt m n) (Replaced n (VarTerm m)) (Replaced m (VarTerm n)))) (number_turned m n ∙ not_equal n m lt)
    ∙ ap (λ b. cond b (Replaced n (VarTerm m)) (Replaced m (VarTerm n))) (not_less m n (omega arith))

pub variable_binding : (old new : StoreView) (a b t u : Term) (x : ℕ) → rule a b ≡ Replaced x t → u ≡ t → BindsFurther old new ((x, u) ∷ []) → FollowsRule old new a b []
variable_binding old new a b t u x r e f = after_binding x t r (subst (λ v. BindsFurther old new ((x, v) ∷ [])) e f) refl

-- of a variable and another value
compound_left : (m : ℕ) (t : Term) → IsCompound t → rule (VarTerm m) t ≡ variable_rule m t
compound_left m t (compound f ts) = refl

compound_right : (m : ℕ) (t : Term) → IsCompound t → rule t (VarTerm m) ≡ variable_rule m t
compound_right m t (compound f ts) = refl

pub rule_left : (st : StoreView) (m : ℕ) (c : BindingCell) → IsNoVariable c → IsValueIn st c → rule (VarTerm m) (meaning st c) ≡ variable_rule m (meaning st c)
rule_left st m Free n v = absurd n
rule_left st m (Var w) n v = absurd n
rule_left st m (Int z) n v = refl
rule_left st m (Atom a) n v = refl
rule_left st m (Compound at base) n v = compound_left m (meaning st (Compound at base)) (resolved_compound (substitution st) (value_term st (Compound at base)) (means_compound (text_in st) at base v.0))

pub rule_right : (st : StoreView) (m : ℕ) (c : BindingCell) → IsNoVariable c → IsValueIn st c → rule (meaning st c) (VarTerm m) ≡ variable_rule m (meaning st c)
rule_right st m Free n v = absurd n
rule_right st m (Var w) n v = absurd n
rule_right st m (Int z) n v = refl
rule_right st m (Atom a) n v = refl
rule_right st m (Compound at base) n v = compound_right m (meaning st (Compound at base)) (resolved_compound (substitution st) (value_term st (Compound at base)) (means_compound (text_in st) at base v.0))

pub no_variable : (st : StoreView) (c : BindingCell) → IsValueIn st c → ((v : ℕ) → c ≡ Var v → ⊥) → IsNoVariable c
no_variable st Free v h = absurd v
no_variable st (Var w) v h = absurd (h w refl)
no_variable st (Int z) v h = tt
no_variable st (Atom a) v h = tt
no_variable st (Compound at base) v h = tt

pub bound_or : (old new : StoreView) (a b t : Term) (x : ℕ) (outcome : Outcome) → rule a b ≡ variable_rule x t → IsBoundOr x t old new outcome → TakesRule old new a b outcome
bound_or old new a b t x ClashOutcome r h = r ∙ ap (λ c. cond c Clash (Replaced x t)) h.0
bound_or old new a b t x Solved r h = after_binding x t (r ∙ ap (λ c. cond c Clash (Replaced x t)) h.0) h.1 refl
bound_or old new a b t x (Inside e) r h = absurd h

pub sides_same : (old new : StoreView) (a b c d : Term) (outcome : Outcome) → a ≡ c → b ≡ d → TakesRule old new a b outcome → TakesRule old new c d outcome
sides_same old new a b c d outcome e f h = subst (λ t. TakesRule old new t d outcome) e (subst (λ t. TakesRule old new a t outcome) f h)

-- of constants and other values
int_compound : (y : ℤ) (t : Term) → IsCompound t → rule (IntTerm y) t ≡ Clash
int_compound y t (compound f ts) = refl

atom_compound : (a : List ℕ) (t : Term) → IsCompound t → rule (AtomTerm a) t ≡ Clash
atom_compound a t (compound f ts) = refl

pub int_clash : (st : StoreView) (y : ℤ) (left c : BindingCell) → left ≡ Int y → IsNoVariable c → IsValueIn st c → ((z : ℤ) → c ≡ Int z → ⊥) → rule (meaning st left) (meaning st c) ≡ Clash
int_clash st y left c e n v h = ap (λ d. rule (meaning st d) (meaning st c)) e ∙ other c n v h
  where
    other : (d : BindingCell) → IsNoVariable d → IsValueIn st d → ((z : ℤ) → d ≡ Int z → ⊥) → rule (IntTerm y) (meaning st d) ≡ Clash
    other Free n v h = absurd n
    other (Var w) n v h = absurd n
    other (Int z) n v h = absurd (h z refl)
    other (Atom a) n v h = refl
    other (Compound at base) n v h = int_compound y (meaning st (Compound at base)) (resolved_compound (substitution st) (value_term st (Compound at base)) (means_compound (text_in st) at base v.0))

pub atom_clash : (st : StoreView) (a : ℕ) (left c : BindingCell) → left ≡ Atom a → IsNoVariable c → IsValueIn st c → ((b : ℕ) → c ≡ Atom b → ⊥) → rule (meaning st left) (meaning st c) ≡ Clash
atom_clash st a left c e n v h = ap (λ d. rule (meaning st d) (meaning st c)) e ∙ other c n v h
  where
    other : (d : BindingCell) → IsNoVariable d → IsValueIn st d → ((b : ℕ) → d ≡ Atom b → ⊥) → rule (AtomTerm (name_at (text_in st).names a)) (meaning st d) ≡ Clash
    other Free n v h = absurd n
    other (Var w) n v h = absurd n
    other (Int z) n v h = refl
    other (Atom b) n v h = absurd (h b refl)
    other (Compound at base) n v h = atom_compound (name_at (text_in st).names a) (meaning st (Compound at base)) (resolved_compound (substitution st) (value_term st (Compound at base)) (means_compound (text_in st) at base v.0))

compound_int : (t : Term) (z : ℤ) → IsCompound t → rule t (IntTerm z) ≡ Clash
compound_int t z (compound f ts) = refl

compound_atom : (t : Term) (b : List ℕ) → IsCompound t → rule t (AtomTerm b) ≡ Clash
compound_atom t b (compound f ts) = refl

pub constant : (st : StoreView) (c : BindingCell) → IsValueIn st c → ((v : ℕ) → c ≡ Var v → ⊥) → ((at base : ℕ) → c ≡ Compound at base → ⊥) → IsConstant c
constant st Free v h k = absurd v
constant st (Var w) v h k = absurd (h w refl)
constant st (Int z) v h k = tt
constant st (Atom a) v h k = tt
constant st (Compound at base) v h k = absurd (k at base refl)

pub no_variable_constant : (c : BindingCell) → IsConstant c → IsNoVariable c
no_variable_constant Free h = absurd h
no_variable_constant (Var w) h = absurd h
no_variable_constant (Int z) h = tt
no_variable_constant (Atom a) h = tt
no_variable_constant (Compound at base) h = absurd h

pub compound_clash : (st : StoreView) (left c : BindingCell) → IsNoVariable left → IsValueIn st left → ((z : ℤ) → left ≡ Int z → ⊥) → ((a : ℕ) → left ≡ Atom a → ⊥) → IsConstant c → rule (meaning st left) (meaning st c) ≡ Clash
compound_clash st Free c n v h k o = absurd n
compound_clash st (Var w) c n v h k o = absurd n
compound_clash st (Int z) c n v h k o = absurd (h z refl)
compound_clash st (Atom a) c n v h k o = absurd (k a refl)
compound_clash st (Compound at base) c n v h k o = by_constant c o
  where
    is : IsCompound (meaning st (Compound at base))
    is = resolved_compound (substitution st) (value_term st (Compound at base)) (means_compound (text_in st) at base v.0)

    by_constant : (d : BindingCell) → IsConstant d → rule (meaning st (Compound at base)) (meaning st d) ≡ Clash
    by_constant Free o = absurd o
    by_constant (Var w) o = absurd o
    by_constant (Int z) o = compound_int (meaning st (Compound at base)) z is
    by_constant (Atom a) o = compound_atom (meaning st (Compound at base)) (name_at (text_in st).names a) is
    by_constant (Compound to over) o = absurd o

-- of two compounds
resolved_pairs : (s : Substitution) (ts us : List Term) → pairs (terms_from (resolved_terms s ts)) (terms_from (resolved_terms s us)) ≡ resolved_equations s (paired ts us)
resolved_pairs s [] us = refl
resolved_pairs s (t ∷ ts) [] = refl
resolved_pairs s (t ∷ ts) (u ∷ us) = ap (λ es. (resolve s t, resolve s u) ∷ es) (resolved_pairs s ts us)

how_many : (s : Substitution) (code : CodeView) (base n at : ℕ) → count (terms_from (resolved_terms s (arguments_from code base n at))) ≡ n
how_many s code base zero at = refl
how_many s code base (suc n) at = ap suc (how_many s code base n (at + 1))

module _ (st : StoreView) (at base f m to over g n : ℕ) (left : HasFunctor (text_in st) st.now.next at base f m) (right : HasFunctor (text_in st) st.now.next to over g n) where
  abbrev s : Substitution
  s = substitution st

  abbrev code : CodeView
  code = text_in st

  abbrev a : Term
  a = meaning st (Compound at base)

  abbrev b : Term
  b = meaning st (Compound to over)

  abbrev ts : Terms
  ts = terms_from (resolved_terms s (arguments_from code base m (at + 1)))

  abbrev us : Terms
  us = terms_from (resolved_terms s (arguments_from code over n (to + 1)))

  by_functor : rule a b ≡ cond (pointwise nat_eq (name_at code.names f) (name_at code.names g) && count ts == count us) (Opened (pairs ts us)) Clash
  by_functor = ap₂ rule (opened_term s (name_at code.names f) (arguments_from code base m (at + 1)) (value_term st (Compound at base)) left.term) (opened_term s (name_at code.names g) (arguments_from code over n (to + 1)) (value_term st (Compound to over)) right.term)

  pub numbers_differ : (m ≡ n → ⊥) → rule a b ≡ Clash
  numbers_differ h =
      by_functor ∙ (ap (λ c. cond (pointwise nat_eq (name_at code.names f) (name_at code.names g) && c) (Opened (pairs ts us)) Clash) differ ∙ ap (λ c. cond c (Opened (pairs ts us)) Clash) (and-false (pointwise nat_eq (name_at code.names f) (name_at code.names g))))
    where
      differ : (count ts == count us) ≡ false
      differ = let l = how_many s code base m (at + 1) in let r = how_many s code over n (to + 1) in grind (arith, nat_tests)

  pub names_differ : pointwise nat_eq (name_at code.names f) (name_at code.names g) ≡ false → rule a b ≡ Clash
  names_differ h = by_functor ∙ ap (λ c. cond (c && count ts == count us) (Opened (pairs ts us)) Clash) h

  opens : pointwise nat_eq (name_at code.names f) (name_at code.names g) ≡ true → m ≡ n → rule a b ≡ Opened (resolved_equations s (paired (arguments_from code base m (at + 1)) (arguments_from code over n (to + 1))))
  opens h e =
      by_functor ∙ (ap (λ c. cond (c && count ts == count us) (Opened (pairs ts us)) Clash) h ∙ (ap (λ c. cond c (Opened (pairs ts us)) Clash) same ∙ ap Opened (resolved_pairs s (arguments_from code base m (at + 1)) (arguments_from code over n (to + 1)))))
    where
      same : (count ts == count us) ≡ true
      same = let l = how_many s code base m (at + 1) in let r = how_many s code over n (to + 1) in grind (arith, nat_tests)

  pub opened_some : (x y : Arguments) (e : ArgumentEquations) → pointwise nat_eq (name_at code.names f) (name_at code.names g) ≡ true → m ≡ n → x ≡ record { at = at + 1; base = base; count = m } → y ≡ record { at = to + 1; base = over; count = n } → e ≡ record { left = x; right = y } → FollowsRule st st a b (e ∷ [])
  opened_some x y e h q l r k =
      let p = left.arity.0 in
      let lefts : e.left ≡ record { at = at + 1; base = base; count = m } = ap (λ (z : ArgumentEquations). z.left) k ∙ l in
      let rights : e.right ≡ record { at = to + 1; base = over; count = n } = ap (λ (z : ArgumentEquations). z.right) k ∙ r in
      let listed : equations_in code e ≡ paired (arguments_from code base m (at + 1)) (arguments_from code over n (to + 1)) = ap₂ (λ u v. paired (arguments_in code u) (arguments_in code v)) lefts rights in
      after_opening e (opens h q ∙ ap (λ es. Opened (resolved_equations s es)) (sym listed))
      (record {
        left = subst (AreThere code st.now.next) (sym lefts) (p, left.arguments);
        right = subst (AreThere code st.now.next) (sym rights) (omega arith, right.arguments);
        as_many = ap (λ (z : Arguments). z.count) lefts ∙ (q ∙ sym (ap (λ (z : Arguments). z.count) rights));
      }) refl refl

-- all but the first equation
pub rest_equations : (e f : ArgumentEquations) (old : List ArgumentEquations) → 1 < e.left.count → f.left ≡ record { at = e.left.at + 1; base = e.left.base; count = e.left.count - 1 } → f.right ≡ record { at = e.right.at + 1; base = e.right.base; count = f.left.count } → KeepsRestEquations e old (f ∷ old)
rest_equations e f old p l r code next h k = by_count e.left.count refl
  where
    by_count : (n : ℕ) → e.left.count ≡ n → HasRestEquations code next e old (f ∷ old)
    by_count zero q = absurd (omega arith)
    by_count (suc n) q =
        let right_count : e.right.count ≡ suc n = sym h.as_many ∙ q in
        let left_args = subst (λ m. AreArguments code next e.left.base m e.left.at) q h.left.1 in
        let right_args = subst (λ m. AreArguments code next e.right.base m e.right.at) right_count h.right.1 in
        let left_is : f.left ≡ record { at = e.left.at + 1; base = e.left.base; count = n } = l ∙ ap (λ m. (let x : Arguments = record { at = e.left.at + 1; base = e.left.base; count = m } in x)) (omega arith) in
        let right_is : f.right ≡ record { at = e.right.at + 1; base = e.right.base; count = n } = r ∙ ap (λ m. (let x : Arguments = record { at = e.right.at + 1; base = e.right.base; count = m } in x)) (ap (λ (x : Arguments). x.count) left_is) in
        let here : equations_in code f ≡ paired (arguments_from code e.left.base n (e.left.at + 1)) (arguments_from code e.right.base n (e.right.at + 1)) = ap₂ (λ u v. paired (arguments_in code u) (arguments_in code v)) left_is right_is in
        let whole : equations_in code e ≡ paired (arguments_from code e.left.base (suc n) e.left.at) (arguments_from code e.right.base (suc n) e.right.at) = ap₂ (λ u v. paired (arguments_from code e.left.base u e.left.at) (arguments_from code e.right.base v e.right.at)) q right_count in
        record {
          equations = ap (λ es. (argument_at code e.left.base e.left.at, argument_at code e.right.base e.right.at) ∷ es ++ pending_equations code old) here ∙ sym (ap (λ es. es ++ pending_equations code old) whole);
          there = (
            record {
              left = subst (AreThere code next) (sym left_is) (omega arith, left_args.1);
              right = subst (AreThere code next) (sym right_is) (omega arith, right_args.1);
              as_many = ap (λ (x : Arguments). x.count) left_is ∙ sym (ap (λ (x : Arguments). x.count) right_is);
            },
            k,
          );
        }

-- there is no other
pub no_other_equation : (e : ArgumentEquations) (old : List ArgumentEquations) → 0 < e.left.count → e.left.count ≤ 1 → KeepsRestEquations e old old
no_other_equation e old p le code next h k =
    let one : e.left.count ≡ 1 = omega arith in
    let right_one : e.right.count ≡ 1 = sym h.as_many ∙ one in
    record { equations = sym (ap₂ (λ m n. paired (arguments_from code e.left.base m e.left.at) (arguments_from code e.right.base n e.right.at) ++ pending_equations code old) one right_one); there = k }

-- one way or the other
pub record OtherEquations (e : ArgumentEquations) (old : List ArgumentEquations) : Type 0 where
  pub others : List ArgumentEquations
  pub kept : KeepsRestEquations e old others

pub other_equations : (e : ArgumentEquations) (old : List ArgumentEquations) → 0 < e.left.count → OtherEquations e old
other_equations e old p = by_count e.left.count refl
  where
    by_count : (n : ℕ) → e.left.count ≡ n → OtherEquations e old
    by_count zero q = absurd (omega arith)
    by_count (suc zero) q = record { others = old; kept = no_other_equation e old p (omega arith) }
    by_count (suc (suc n)) q =
        let l : Arguments = record { at = e.left.at + 1; base = e.left.base; count = e.left.count - 1 } in
        let r : Arguments = record { at = e.right.at + 1; base = e.right.base; count = e.left.count - 1 } in
        let f : ArgumentEquations = record { left = l; right = r } in
        record { others = f ∷ old; kept = rest_equations e f old (omega arith) refl refl }
