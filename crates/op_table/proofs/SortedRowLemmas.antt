-- The rows of a table around a place.
use Rattle.std.proofs.Common.{◌≡◌, ℕ, List, refl}
use Rattle.std.specs.Ordering.{nat_cmp, is_eq}
use Rattle.std.specs.Cmp.{IsTotalOrder, then_total, on_total, nat_cmp_total, both_tied, unsigned_ties}
use Rattle.std.specs.Cmp.Lexicographic.{slice_cmp, nat_list_cmp_total, texts_ties}
use Rattle.au_model.specs.Syntax.Operators.{OperatorKind, KindFy, KindXfx, KindXf, OperatorClass, PrefixClass, InfixClass, PostfixClass, class_rank, OperatorRow, row_rank, row_order, is_operator_row}
use Rattle.op_table.specs.OperatorView.{place_order}

pub row_order-total : IsTotalOrder row_order
row_order-total = then_total (on_total (λ (r : OperatorRow). r.name) nat_list_cmp_total) (on_total row_rank nat_cmp_total)

-- a row that is at a place
kind_in : OperatorClass → OperatorKind
kind_in PrefixClass = KindFy
kind_in InfixClass = KindXfx
kind_in PostfixClass = KindXf

pub row_at : OperatorClass → List ℕ → OperatorRow
row_at class name = record { name = name; operator = record { priority = 1; kind = kind_in class } }

pub at_place : (class : OperatorClass) (name : List ℕ) (r : OperatorRow) → place_order class name r ≡ row_order r (row_at class name)
unfolding kind_in row_at
at_place PrefixClass name r = refl
at_place InfixClass name r = refl
at_place PostfixClass name r = refl

-- the place of a row is told by its name and class
pub is_row-place : (class : OperatorClass) (name : List ℕ) (r : OperatorRow) → is_operator_row class name r ≡ is_eq (place_order class name r)
is_row-place class name r = both_tied _ _ (slice_cmp nat_cmp r.name name) (nat_cmp (row_rank r) (class_rank class)) (texts_ties r.name name) (unsigned_ties (row_rank r) (class_rank class))
