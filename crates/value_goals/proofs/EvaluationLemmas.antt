-- Expressions that are evaluated from the left.
use Rattle.std.proofs.Common.{◌≡◌, ℕ, ◌+◌, ◌<◌, ◌≤◌, ℤ, List, [], ◌∷◌, ◌++◌, Option, Some, None, option_map, Result, Ok, Err, reverse, refl, sym, ap, ap₂, ◌∙◌, subst, arith}
use Rattle.std.specs.Prelude.{MatchOption}
use Rattle.std.specs.Result.{result_ok}
use Rattle.au_model.specs.declared.fault.EvalName.{EvalName}
use Rattle.arith_eval.specs.Integers.{outcome}
use Rattle.au_term.specs.Term.{Term, IntTerm, Compound as CompoundTerm, end, more}
use Rattle.au_model.specs.Terms.Lists.{terms_from}
use Rattle.au_model.specs.Terms.Substitutions.{resolve, apply_all, value_of}
use Rattle.au_model.specs.Terms.Unifier.{size}
use Rattle.au_model.proofs.UnifierMeasureLemmas.{size_pos}
use Rattle.run_model.specs.Goals.Arithmetic.{Evaluated, UnaryFunction, BinaryFunction, then_value, unary_value, binary_value, unary_function, binary_function, expression_value, not_evaluable}
use Rattle.arith_eval.specs.Functions.{unary_meaning, binary_meaning}
use Rattle.arith_eval.specs.Evaluating.{problem_term}
use Rattle.arith_eval.specs.declared.functions.Unary.{Unary}
use Rattle.arith_eval.specs.declared.functions.Binary.{Binary}
use Rattle.arith_eval.specs.declared.evaluation.Problem.{Problem}
use Rattle.arith_eval.proofs.Stacks.{wide_compound}
use Rattle.clause_compile.specs.AtomNumbers.{name_at}
use Rattle.binding_array.specs.declared.cell.BindingCell.{BindingCell}
use Rattle.binding_array.specs.declared.cell.BindingCell.TheVariants.{Compound}
use Rattle.cell_store.specs.Arguments.{HasFunctor, argument_at, arguments_from}
use Rattle.cell_store.specs.StoreView.{StoreView, IsValueIn, meaning, value_term, substitution, text_in}
use Rattle.cell_store.proofs.WalkLemmas.{turned}
use Rattle.cell_store.proofs.WritingLemmas.{how_many}
use Rattle.value_goals.specs.ShortValues.{HasNoShortValue}
use Rattle.value_goals.specs.Evaluation.{evaluated_in, with_first, function_resumed, functions_resumed, value_of_next, evaluation_steps, waiting_steps, IsWaitingIn, StepsOn, StepsTo}
use Rattle.value_goals.specs.declared.evaluation.Waiting.{Waiting}
use Rattle.value_goals.specs.declared.evaluation.Waiting.TheVariants.{One, First, Second}
use Rattle.value_goals.specs.declared.evaluation.Next.{Next}
use Rattle.value_goals.specs.declared.evaluation.Next.TheVariants.{Expression, Value}

-- a function that was found by its name
unary_found : (name : List ℕ) (o : Option UnaryFunction) (f : Unary) (v : Evaluated) → option_map unary_meaning (Some f) ≡ option_map (λ g. g.value) o → unary_value name o v ≡ then_value v (unary_meaning f)
unary_found name None f v h = absurd cc
unary_found name (Some g) f v h = let found : unary_meaning f ≡ g.value = cc in ap (then_value v) (sym found)

binary_found : (name : List ℕ) (o : Option BinaryFunction) (f : Binary) (v w : Evaluated) → option_map binary_meaning (Some f) ≡ option_map (λ g. g.value) o → binary_value name o v w ≡ then_value v (λ x. then_value w (binary_meaning f x))
binary_found name None f v w h = absurd cc
binary_found name (Some g) f v w h = let found : binary_meaning f ≡ g.value = cc in ap (λ (k : ℤ → ℤ → Evaluated). then_value v (λ x. then_value w (k x))) (sym found)

-- the arguments of compounds
module _ (st : StoreView) (at base f : ℕ) where
  pub one_argument : (c : BindingCell) → HasFunctor (text_in st) st.now.next at base f 1 → value_term st c ≡ argument_at (text_in st) base (at + 1) → meaning st (Compound at base) ≡ CompoundTerm (name_at (text_in st).names f) (more (meaning st c) end)
  one_argument c h e = ap (resolve (substitution st)) h.term ∙ ap (λ t. CompoundTerm (name_at (text_in st).names f) (more (resolve (substitution st) t) end)) (sym e)

  pub two_arguments : (c d : BindingCell) → HasFunctor (text_in st) st.now.next at base f 2 → value_term st c ≡ argument_at (text_in st) base (at + 1) → value_term st d ≡ argument_at (text_in st) base (at + 2)
      → meaning st (Compound at base) ≡ CompoundTerm (name_at (text_in st).names f) (more (meaning st c) (more (meaning st d) end))
  two_arguments c d h e k =
      let next : at + 2 ≡ at + 1 + 1 = omega arith in
      ap (resolve (substitution st)) h.term
      ∙ ap₂ (λ t u. CompoundTerm (name_at (text_in st).names f) (more (resolve (substitution st) t) (more (resolve (substitution st) u) end))) (sym e) (sym (k ∙ ap (argument_at (text_in st) base) next))

  -- a number of arguments that no function has
  pub no_function_so_wide : (n : ℕ) → HasFunctor (text_in st) st.now.next at base f n → (n ≡ 1 → ⊥) → (n ≡ 2 → ⊥) → evaluated_in st (Compound at base) ≡ not_evaluable (name_at (text_in st).names f) n
  no_function_so_wide n h one two =
      let us = apply_all (value_of (substitution st)) (terms_from (arguments_from (text_in st) base n (at + 1))) in
      ap (λ t. expression_value (resolve (substitution st) t)) h.term ∙ wide_compound (name_at (text_in st).names f) us n (how_many (substitution st) (text_in st) base n (at + 1)) one two

  one_value : (g : Unary) (c : BindingCell) → HasFunctor (text_in st) st.now.next at base f 1 → value_term st c ≡ argument_at (text_in st) base (at + 1) → option_map unary_meaning (Some g) ≡ option_map (λ k. k.value) (unary_function (name_at (text_in st).names f)) → then_value (evaluated_in st c) (unary_meaning g) ≡ evaluated_in st (Compound at base)
  one_value g c h e found = sym (ap expression_value (one_argument c h e) ∙ unary_found (name_at (text_in st).names f) (unary_function (name_at (text_in st).names f)) g (evaluated_in st c) found)

  two_values : (g : Binary) (c d : BindingCell) → HasFunctor (text_in st) st.now.next at base f 2 → value_term st c ≡ argument_at (text_in st) base (at + 1) → value_term st d ≡ argument_at (text_in st) base (at + 2) → option_map binary_meaning (Some g) ≡ option_map (λ k. k.value) (binary_function (name_at (text_in st).names f))
      → then_value (evaluated_in st c) (λ x. with_first st (binary_meaning g) x d) ≡ evaluated_in st (Compound at base)
  two_values g c d h e k found = sym (ap expression_value (two_arguments c d h e k) ∙ binary_found (name_at (text_in st).names f) (binary_function (name_at (text_in st).names f)) g (evaluated_in st c) (evaluated_in st d) found)

  -- of an integer
  pub one_known : (g : Unary) (c : BindingCell) (x : ℤ) → HasFunctor (text_in st) st.now.next at base f 1 → value_term st c ≡ argument_at (text_in st) base (at + 1) → option_map unary_meaning (Some g) ≡ option_map (λ k. k.value) (unary_function (name_at (text_in st).names f)) → meaning st c ≡ IntTerm x
      → unary_meaning g x ≡ evaluated_in st (Compound at base)
  one_known g c x h e found is = ap (λ t. then_value (expression_value t) (unary_meaning g)) (sym is) ∙ one_value g c h e found

  pub first_known : (g : Binary) (c d : BindingCell) (x y : ℤ) → HasFunctor (text_in st) st.now.next at base f 2 → value_term st c ≡ argument_at (text_in st) base (at + 1) → value_term st d ≡ argument_at (text_in st) base (at + 2) → option_map binary_meaning (Some g) ≡ option_map (λ k. k.value) (binary_function (name_at (text_in st).names f)) → meaning st c ≡ IntTerm x → y ≡ x
      → (with_first st (binary_meaning g) y d ≡ evaluated_in st (Compound at base)) × (evaluation_steps st d + 2 ≤ evaluation_steps st (Compound at base))
  first_known g c d x y h e k found is same =
      (ap (λ z. with_first st (binary_meaning g) z d) same ∙ (ap (λ t. then_value (expression_value t) (λ z. with_first st (binary_meaning g) z d)) (sym is) ∙ two_values g c d h e k found), omega (arith, ap size (two_arguments c d h e k)))

  pub both_known : (g : Binary) (c d : BindingCell) (x y : ℤ) → HasFunctor (text_in st) st.now.next at base f 2 → value_term st c ≡ argument_at (text_in st) base (at + 1) → value_term st d ≡ argument_at (text_in st) base (at + 2) → option_map binary_meaning (Some g) ≡ option_map (λ k. k.value) (binary_function (name_at (text_in st).names f)) → meaning st c ≡ IntTerm x → meaning st d ≡ IntTerm y
      → binary_meaning g x y ≡ evaluated_in st (Compound at base)
  both_known g c d x y h e k found is other = ap (λ t. then_value (expression_value t) (binary_meaning g x)) (sym other) ∙ (first_known g c d x x h e k found is refl).0

-- the value that was computed, where there is one
pub value_found : (r : Result ℤ EvalName) (o : Option ℤ) (v : Evaluated) (t : Term) → o ≡ result_ok r → outcome r ≡ v → v ≡ expression_value t → MatchOption o (HasNoShortValue t) (λ z. expression_value t ≡ Ok z)
value_found r o v t e h k = subst (λ x. MatchOption x (HasNoShortValue t) (λ z. expression_value t ≡ Ok z)) (sym e) (by r (h ∙ k))
  where
    by : (q : Result ℤ EvalName) → outcome q ≡ expression_value t → MatchOption (result_ok q) (HasNoShortValue t) (λ z. expression_value t ≡ Ok z)
    by (Ok z) h = sym h
    by (Err error) h = λ s z is. absurd (let no : Err _ ≡ Ok z = h ∙ is in cc)

-- a function waits
waits : (st : StoreView) (v : Evaluated) (steps : ℕ) (old new : List Waiting) (w : Waiting) (c : BindingCell) → new ≡ old ++ w ∷ [] → function_resumed st w (evaluated_in st c) ≡ v → evaluation_steps st c + waiting_steps st w < steps → IsValueIn st c → IsWaitingIn st w → StepsOn st v steps (reverse old) (reverse new) (Expression c)
waits st v steps old new w c e is lt h k = subst (λ ws. StepsOn st v steps (reverse old) ws (Expression c)) (sym (ap reverse e ∙ turned old w)) (record {
  same = ap (functions_resumed st (reverse old)) is;
  fewer = omega arith;
  next_there = h;
  there = λ all. (k, all);
})

pub one_waits : (st : StoreView) (at base f : ℕ) (g : Unary) (c : BindingCell) (old new : List Waiting) → HasFunctor (text_in st) st.now.next at base f 1 → value_term st c ≡ argument_at (text_in st) base (at + 1) → IsValueIn st c → option_map unary_meaning (Some g) ≡ option_map (λ k. k.value) (unary_function (name_at (text_in st).names f)) → new ≡ old ++ One g ∷ []
    → StepsOn st (evaluated_in st (Compound at base)) (evaluation_steps st (Compound at base)) (reverse old) (reverse new) (Expression c)
one_waits st at base f g c old new h e there found is = waits st (evaluated_in st (Compound at base)) (evaluation_steps st (Compound at base)) old new (One g) c is (one_value st at base f g c h e found) (omega (arith, ap size (one_argument st at base f c h e))) there tt

pub first_waits : (st : StoreView) (at base f : ℕ) (g : Binary) (c d : BindingCell) (old new : List Waiting) → HasFunctor (text_in st) st.now.next at base f 2 → value_term st c ≡ argument_at (text_in st) base (at + 1) → value_term st d ≡ argument_at (text_in st) base (at + 2) → IsValueIn st c → IsValueIn st d
    → option_map binary_meaning (Some g) ≡ option_map (λ k. k.value) (binary_function (name_at (text_in st).names f)) → new ≡ old ++ First g d ∷ [] → StepsOn st (evaluated_in st (Compound at base)) (evaluation_steps st (Compound at base)) (reverse old) (reverse new) (Expression c)
first_waits st at base f g c d old new h e k there other found is =
    waits st (evaluated_in st (Compound at base)) (evaluation_steps st (Compound at base)) old new (First g d) c is (two_values st at base f g c d h e k found) (omega (arith, ap size (two_arguments st at base f c d h e k))) there other

pub second_waits : (st : StoreView) (g : Binary) (x y : ℤ) (d : BindingCell) (old new : List Waiting) → IsValueIn st d → y ≡ x → new ≡ old ++ Second g y ∷ [] → StepsOn st (with_first st (binary_meaning g) x d) (evaluation_steps st d + 2) (reverse old) (reverse new) (Expression d)
second_waits st g x y d old new there same is = waits st (with_first st (binary_meaning g) x d) (evaluation_steps st d + 2) old new (Second g y) d is (ap (λ z. with_first st (binary_meaning g) z d) same) (omega arith) there tt

-- the same value, with more steps
pub more_steps : (st : StoreView) (v u : Evaluated) (m n : ℕ) (old new : List Waiting) (r : Result Next Problem) → v ≡ u → m ≤ n → StepsTo st v m old new r → StepsTo st u n old new r
more_steps st v u m n old new (Ok next) e le h = record { same = h.same ∙ ap (functions_resumed st old) e; fewer = omega (arith, h.fewer); next_there = h.next_there; there = h.there }
more_steps st v u m n old new (Err problem) e le h = sym e ∙ h

-- what was computed
pub computed_step : (st : StoreView) (v u : Evaluated) (n : ℕ) (ws : List Waiting) (r : Result Next Problem) → v ≡ u → 0 < n → ((view : StoreView) (steps : ℕ) (all : List Waiting) → 0 < steps → StepsTo view v steps all all r) → StepsTo st u n ws ws r
computed_step st v u n ws r e p h = more_steps st v u n n ws ws r e (omega arith) (h st n ws p)

pub some_steps : (st : StoreView) (c : BindingCell) → 0 < evaluation_steps st c
some_steps st c = omega (arith, size_pos (meaning st c))

-- an error is the value of all
pub error_of_all : (st : StoreView) (ws : List Waiting) (t : Term) → functions_resumed st ws (Err t) ≡ Err t
error_of_all st [] t = refl
error_of_all st (w ∷ ws) t = ap (functions_resumed st ws) (by w) ∙ error_of_all st ws t
  where
    by : (u : Waiting) → function_resumed st u (Err t) ≡ Err t
    by (One f) = refl
    by (First f c) = refl
    by (Second f x) = refl

pub error_of_step : (st : StoreView) (v w : Evaluated) (n : ℕ) (old new : List Waiting) (r : Result Next Problem) (p : Problem) → r ≡ Err p → StepsTo st v n old new r → functions_resumed st old v ≡ w → Err (problem_term p) ≡ w
error_of_step st v w n old new r p e h k =
    let is : v ≡ Err (problem_term p) = subst (StepsTo st v n old new) e h in
    sym (error_of_all st old (problem_term p)) ∙ (ap (functions_resumed st old) (sym is) ∙ k)

pub error_of_popped : (st : StoreView) (w : Evaluated) (n : ℕ) (all rest new : List Waiting) (f : Waiting) (next : Next) (y z : ℤ) (r : Result Next Problem) (p : Problem) → all ≡ rest ++ f ∷ [] → next ≡ Value z → y ≡ z → r ≡ Err p → StepsTo st (function_resumed st f (Ok y)) n (reverse rest) new r
    → functions_resumed st (reverse all) (value_of_next st next) ≡ w → Err (problem_term p) ≡ w
error_of_popped st w n all rest new f next y z r p e is same bad h k =
    let popped : functions_resumed st (reverse all) (Ok z) ≡ functions_resumed st (reverse rest) (function_resumed st f (Ok z)) = ap (λ ws. functions_resumed st ws (Ok z)) (ap reverse e ∙ turned rest f) in
    error_of_step st (function_resumed st f (Ok y)) w n (reverse rest) new r p bad h
    (ap (λ x. functions_resumed st (reverse rest) (function_resumed st f (Ok x))) same ∙ (sym popped ∙ (ap (λ m. functions_resumed st (reverse all) (value_of_next st m)) (sym is) ∙ k)))
