-- Values of compounds with more than two arguments.
use Rattle.std.proofs.Common.{◌≡◌, ℕ, ℤ, zero, suc, ◌+◌, ◌-◌, ◌<◌, ◌≤◌, List, [], ◌∷◌, ◌++◌, length, take, drop, map, Result, Ok, Option, Some, None, option_map, get_or, refl, sym, ap, ap₂, ◌∙◌, arith, length-drop}
use Rattle.std.specs.Prelude.{reverse}
use Rattle.std.proofs.lemmas.List.{reverse-append, length-reverse, length-map, take-append-drop, drop-map}
use Rattle.std.proofs.Math.Seq.{drop-append_seam}
use Rattle.au_term.specs.Term.{Term, Compound, Terms, end, more, count, first_of, take_terms, drop_terms}
use Rattle.au_term.specs.PrefixOrder.{with_cell, arity, cells_of, terms_of, term_of, term_of-cells_of, IsTerm}
use Rattle.au_term.specs.declared.cell.Cell.{Cell}
use Rattle.au_term.specs.declared.cell.Cell.TheVariants.{Functor}
use Rattle.au_term.proofs.WholeTermLemmas.{count-take, forest_of}
use Rattle.au_term.proofs.SizeFillLemmas.{opened, opens_at}
use Rattle.run_model.specs.Goals.Arithmetic.{Evaluated, UnaryFunction, BinaryFunction, unary_value, binary_value, expression_value, not_evaluable}
use Rattle.arith_eval.specs.Evaluating.{evaluated, values_of, Stacks}
use Rattle.arith_eval.specs.Functions.{unary_meaning, binary_meaning}
use Rattle.arith_eval.specs.declared.evaluation.Problem.{Problem}
use Rattle.arith_eval.specs.declared.functions.Unary.{Unary}
use Rattle.arith_eval.specs.declared.functions.Binary.{Binary}
use Rattle.au_term.proofs.StoredTermLemmas.{whole_forest as is_forest}

pub length-values_of : (ts : Terms) → length (values_of ts) ≡ count ts
length-values_of end = refl
length-values_of (more t ts) = ap suc (length-values_of ts)

drop-values_of : (n : ℕ) (ts : Terms) → drop n (values_of ts) ≡ values_of (drop_terms n ts)
drop-values_of zero ts = refl
drop-values_of (suc n) end = refl
drop-values_of (suc n) (more t ts) = drop-values_of n ts

-- as many terms as values on the stack
pub stack_count : (values : List (Result ℤ Problem)) (ts : Terms) → Stacks values ts → count ts ≡ length values
stack_count values ts h = sym (length-values_of ts) ∙ (ap length (sym h) ∙ (length-map (reverse values) evaluated ∙ length-reverse values))

pub wide_compound : (name : List ℕ) (us : Terms) (n : ℕ) → count us ≡ n → (n ≡ 1 → ⊥) → (n ≡ 2 → ⊥) → expression_value (Compound name us) ≡ not_evaluable name n
wide_compound name end n e h k = ap (not_evaluable name) e
wide_compound name (more a end) n e h k = absurd (h (sym e))
wide_compound name (more a (more b end)) n e h k = absurd (k (sym e))
wide_compound name (more a (more b (more c us))) n e h k = ap (not_evaluable name) e

-- what is left of a stack without its top
below_top : {X : Type 0} (n : ℕ) (xs : List X) → n ≤ length xs → reverse (take (length xs - n) xs) ≡ drop n (reverse xs)
below_top n xs few =
    let k = length xs - n in
    let top : length (reverse (drop k xs)) ≡ n = omega (arith, length-reverse (drop k xs), length-drop k xs) in
    sym (ap (λ m. drop m (reverse xs)) (sym top)
    ∙ (ap (λ ys. drop (length (reverse (drop k xs))) ys) (ap reverse (sym (take-append-drop k xs)) ∙ reverse-append (take k xs) (drop k xs))
    ∙ drop-append_seam (reverse (drop k xs)) (reverse (take k xs))))

pub wide_value : (name : List ℕ) (n m : ℕ) (values now : List (Result ℤ Problem)) (ts : Terms) (v : Result ℤ Problem) → (n ≡ 1 → ⊥) → (n ≡ 2 → ⊥) → n ≤ length values → m ≡ length values - n → now ≡ take m values → Stacks values ts → evaluated v ≡ not_evaluable name n
    → evaluated v ∷ map evaluated (reverse now) ≡ values_of (with_cell (Functor name n) ts)
wide_value name n m values now ts v one two few left is h e =
    let enough : n ≤ count ts = omega (arith, stack_count values ts h) in
    let first : evaluated v ≡ expression_value (Compound name (take_terms n ts)) = e ∙ sym (wide_compound name (take_terms n ts) n (count-take n ts enough) one two) in
    let others : map evaluated (reverse now) ≡ values_of (drop_terms n ts) =
    ap (λ vs. map evaluated (reverse vs)) (is ∙ ap (λ k. take k values) left) ∙ (ap (map evaluated) (below_top n values few) ∙ (sym (drop-map evaluated n (reverse values)) ∙ (ap (drop n) h ∙ drop-values_of n ts))) in
    ap₂ (λ x xs. x ∷ xs) first others

-- the values of a cell's arguments are on the stack
pub arguments_stacked : (cells : List Cell) (k at : ℕ) (c : Cell) (values : List (Result ℤ Problem)) → IsTerm cells → at ≡ k + 1 → k < length cells → c ≡ get_or cells k c → Stacks values (terms_of (drop at cells)) → arity c ≤ length values
arguments_stacked cells k at c values t e lt is h =
    omega (arith, (opens_at cells k c (is_forest cells t) lt is).enough, stack_count values (terms_of (drop at cells)) h, ap (λ i. count (terms_of (drop i cells))) e)

pub value_stacked : (cells : List Cell) (k at : ℕ) (c : Cell) (v : Result ℤ Problem) (values : List (Result ℤ Problem)) → at ≡ k + 1 → k < length cells → c ≡ get_or cells k c
    → evaluated v ∷ map evaluated (reverse values) ≡ values_of (with_cell c (terms_of (drop at cells))) → Stacks (values ++ v ∷ []) (terms_of (drop k cells))
value_stacked cells k at c v values e lt is h =
    ap (map evaluated) (reverse-append values (v ∷ [])) ∙ (h ∙ (ap (λ i. values_of (with_cell c (terms_of (drop i cells)))) e ∙ ap (λ cs. values_of (terms_of cs)) (sym (opened cells k c lt is))))

pub one_stacked : (cells : List Cell) (at : ℕ) (values : List (Result ℤ Problem)) → IsTerm cells → at ≤ 0 → Stacks values (terms_of (drop at cells)) → length values ≡ 1
one_stacked cells at values t e h =
    let zero_at : at ≡ 0 = omega arith in
    sym (stack_count values (terms_of (drop at cells)) h) ∙ (ap (λ i. count (terms_of (drop i cells))) zero_at ∙ (forest_of 1 cells t.leaves).number)

top_value : (v : Result ℤ Problem) (vs : List Evaluated) (ts : Terms) → evaluated v ∷ vs ≡ values_of ts → evaluated v ≡ expression_value (first_of ts)
top_value v vs end h = absurd cc
top_value v vs (more t ts) h = cc

pub last_value : (cells : List Cell) (at : ℕ) (values now : List (Result ℤ Problem)) (v : Result ℤ Problem) (t : Term) → at ≤ 0 → cells ≡ cells_of t → values ≡ now ++ v ∷ [] → Stacks values (terms_of (drop at cells)) → evaluated v ≡ expression_value t
last_value cells at values now v t e is top h =
    let zero_at : at ≡ 0 = omega arith in
    top_value v (map evaluated (reverse now)) (terms_of (drop at cells)) (ap (map evaluated) (sym (reverse-append now (v ∷ []))) ∙ (ap (λ vs. map evaluated (reverse vs)) (sym top) ∙ h))
    ∙ ap expression_value (ap (λ i. term_of (drop i cells)) zero_at ∙ (ap term_of is ∙ term_of-cells_of t))

pub unary_computed : (name : List ℕ) (f : Unary) (o : Option UnaryFunction) (x y : ℤ) (r : Evaluated) → option_map unary_meaning (Some f) ≡ option_map (λ g. g.value) o → y ≡ x → r ≡ unary_meaning f y → r ≡ unary_value name o (Ok x)
unary_computed name f None x y r h same e = absurd cc
unary_computed name f (Some g) x y r h same e = let found : unary_meaning f ≡ g.value = cc in e ∙ (ap (unary_meaning f) same ∙ ap (λ (k : ℤ → Evaluated). k x) found)

pub binary_computed : (name : List ℕ) (f : Binary) (o : Option BinaryFunction) (x y v w : ℤ) (r : Evaluated) → option_map binary_meaning (Some f) ≡ option_map (λ g. g.value) o → v ≡ x → w ≡ y → r ≡ binary_meaning f v w → r ≡ binary_value name o (Ok x) (Ok y)
binary_computed name f None x y v w r h left right e = absurd cc
binary_computed name f (Some g) x y v w r h left right e = let found : binary_meaning f ≡ g.value = cc in e ∙ (ap₂ (λ m n. binary_meaning f m n) left right ∙ ap (λ (k : ℤ → ℤ → Evaluated). k x y) found)
