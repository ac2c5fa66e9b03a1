-- What an operator table says of the operators that it has.
use Rattle.std.proofs.Common.{◌≡◌, ℕ, ◌<◌, ◌≤◌, Bool, true, false, ◌==◌, cond, nat_eq, List, [], ◌∷◌, Option, Some, None, refl, sym, ap, ◌∙◌, subst, arith}
use Rattle.std.specs.List.{AllByRecursion}
use Rattle.std.specs.Option.{is_none}
use Rattle.std.specs.Cmp.Lexicographic.{pointwise, same_text}
use Rattle.std.proofs.lemmas.List.Elements.{recursion_from_All}
use Rattle.au_model.specs.Syntax.Operators.{Operator, OperatorRow, OperatorTable, OperatorClass, InfixClass, class_rank, row_rank, is_operator_row, operator_of, prefix_of, infix_of, postfix_of, is_operator_name_free, is_no_operator, IsOperatorTable}
use Rattle.au_term.proofs.LogicLemmas.{both}

abbrev Ranged : OperatorRow → Type 0
Ranged r = (0 < r.operator.priority) × (r.operator.priority ≤ 1200)

ranged_in : (class : OperatorClass) (rs : OperatorTable) (n : List ℕ) (o : Operator) → AllByRecursion Ranged rs → operator_of class rs n ≡ Some o → (1 ≤ o.priority) × (o.priority ≤ 1200)
ranged_in class [] n o h e = let f : ⊥ = cc in absurd f
ranged_in class (r ∷ rs) n o h e = go (is_operator_row class n r) (ranged_in class rs n o h.1) e
  where
    go : (b : Bool) → (operator_of class rs n ≡ Some o → (1 ≤ o.priority) × (o.priority ≤ 1200)) → cond b (Some r.operator) (operator_of class rs n) ≡ Some o → (1 ≤ o.priority) × (o.priority ≤ 1200)
    go true further k = let same : r.operator ≡ o = cc in let p = ap (λ (q : Operator). q.priority) same in (omega (arith, p, h.0.0), omega (arith, p, h.0.1))
    go false further k = further k

pub ranged : (class : OperatorClass) (t : OperatorTable) (n : List ℕ) (o : Operator) → IsOperatorTable t → operator_of class t n ≡ Some o → (1 ≤ o.priority) × (o.priority ≤ 1200)
ranged class t n o table e = ranged_in class t n o (recursion_from_All Ranged t table.priorities) e

none_is : {A : Type 0} (o : Option A) → is_none o ≡ true → o ≡ None
none_is None e = refl
none_is (Some x) e = let f : ⊥ = cc in absurd f

apart_row : (t : OperatorTable) (r : OperatorRow) (n : List ℕ) → is_operator_name_free t r ≡ true → is_operator_row InfixClass n r ≡ true → is_none (postfix_of t n) ≡ true
apart_row t r n h e =
    let k = both (pointwise nat_eq r.name n) (row_rank r == class_rank InfixClass) e in
    let name : r.name ≡ n = same_text r.name n (sym k.0) in
    let here : is_none (postfix_of t r.name) ≡ true = rw k.1 at h in
    subst (λ m. is_none (postfix_of t m) ≡ true) name here

apart_in : (t rs : OperatorTable) (n : List ℕ) (o : Operator) → AllByRecursion (λ r. is_operator_name_free t r ≡ true) rs → operator_of InfixClass rs n ≡ Some o → is_none (postfix_of t n) ≡ true
apart_in t [] n o h e = let f : ⊥ = cc in absurd f
apart_in t (r ∷ rs) n o h e = go (is_operator_row InfixClass n r) refl (apart_in t rs n o h.1) e
  where
    go : (b : Bool) → is_operator_row InfixClass n r ≡ b → (operator_of InfixClass rs n ≡ Some o → is_none (postfix_of t n) ≡ true) → cond b (Some r.operator) (operator_of InfixClass rs n) ≡ Some o → is_none (postfix_of t n) ≡ true
    go true q further k = apart_row t r n h.0 q
    go false q further k = further k

-- a postfix operator is no infix operator
pub no_infix : (t : OperatorTable) (n : List ℕ) (o : Operator) → IsOperatorTable t → postfix_of t n ≡ Some o → infix_of t n ≡ None
no_infix t n o table e = go (infix_of t n) refl
  where
    go : (q : Option Operator) → infix_of t n ≡ q → q ≡ None
    go None k = refl
    go (Some p) k =
        let none = apart_in t t n p (recursion_from_All (λ r. is_operator_name_free t r ≡ true) t table.apart) k in
        let f : false ≡ true = ap is_none (sym e) ∙ none in
        let g : ⊥ = cc in absurd g

pub no_prefix : (t : OperatorTable) (n : List ℕ) → is_no_operator t n ≡ true → prefix_of t n ≡ None
no_prefix t n e = none_is (prefix_of t n) (both _ _ e).0
