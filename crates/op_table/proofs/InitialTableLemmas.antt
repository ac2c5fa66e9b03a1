-- The table that a text begins with is an operator table.
use Rattle.std.proofs.Common.{◌≡◌, ◌<◌, ◌≤◌, Bool, true, ◌&&◌, nat_lt, nat_le, [], ◌∷◌, refl}
use Rattle.std.specs.List.{AllByRecursion, list_all}
use Rattle.std.specs.List.Sorted.{IsStrictlySortedBy}
use Rattle.std.specs.Ordering.{is_lt}
use Rattle.std.specs.declared.cmp.Ordering.{Ordering}
use Rattle.std.specs.declared.cmp.Ordering.TheVariants.{Less, Equal, Greater}
use Rattle.std.proofs.lemmas.Bool.{leb-true, ltb-true}
use Rattle.std.proofs.lemmas.List.Elements.{All-from_recursion}
use Rattle.au_model.specs.Syntax.Operators.{OperatorRow, OperatorTable, row_order, is_operator_name_free, IsOperatorTable, initial_operators}
use Rattle.au_term.proofs.LogicLemmas.{both as both_true}

is_less : (o : Ordering) → is_lt o ≡ true → o ≡ Less
is_less Less e = refl
is_less Equal e = let f : ⊥ = cc in absurd f
is_less Greater e = let f : ⊥ = cc in absurd f

below_all : (r : OperatorRow) (rs : OperatorTable) → list_all (λ s. is_lt (row_order r s)) rs ≡ true → AllByRecursion (λ s. row_order r s ≡ Less) rs
below_all r [] e = tt
below_all r (s ∷ rs) e = let h = both_true (is_lt (row_order r s)) _ e in (is_less (row_order r s) h.0, below_all r rs h.1)

is_sorted : OperatorTable → Bool
is_sorted [] = true
is_sorted (r ∷ rs) = list_all (λ s. is_lt (row_order r s)) rs && is_sorted rs

sorted-is : (rs : OperatorTable) → is_sorted rs ≡ true → IsStrictlySortedBy row_order rs
unfolding IsStrictlySortedBy is_sorted
sorted-is [] e = tt
sorted-is (r ∷ rs) e = let h = both_true (list_all (λ s. is_lt (row_order r s)) rs) (is_sorted rs) e in (below_all r rs h.0, sorted-is rs h.1)

abbrev HasPriority : OperatorRow → Type 0
HasPriority r = (0 < r.operator.priority) × (r.operator.priority ≤ 1200)

priorities-are : (rs : OperatorTable) → list_all (λ r. nat_lt 0 r.operator.priority && nat_le r.operator.priority 1200) rs ≡ true → AllByRecursion HasPriority rs
priorities-are [] e = tt
priorities-are (r ∷ rs) e =
    let h = both_true (nat_lt 0 r.operator.priority && nat_le r.operator.priority 1200) _ e in
    let k = both_true (nat_lt 0 r.operator.priority) (nat_le r.operator.priority 1200) h.0 in
    ((ltb-true 0 r.operator.priority k.0, leb-true r.operator.priority 1200 k.1), priorities-are rs h.1)

apart-are : (t rs : OperatorTable) → list_all (is_operator_name_free t) rs ≡ true → AllByRecursion (λ r. is_operator_name_free t r ≡ true) rs
apart-are t [] e = tt
apart-are t (r ∷ rs) e = let h = both_true (is_operator_name_free t r) (list_all (is_operator_name_free t) rs) e in (h.0, apart-are t rs h.1)

pub initial_operators-table : IsOperatorTable initial_operators
unfolding is_sorted
initial_operators-table = record {
  ordered = sorted-is initial_operators refl;
  priorities = All-from_recursion HasPriority initial_operators (priorities-are initial_operators refl);
  apart = All-from_recursion (λ r. is_operator_name_free initial_operators r ≡ true) initial_operators (apart-are initial_operators initial_operators refl);
  comma = refl;
  nil = refl;
  braces = refl;
}
