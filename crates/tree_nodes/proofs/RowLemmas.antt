-- Rows of a table that is changed at one number.
use Rattle.std.proofs.Common.{◌≡◌, ◌≢◌, ℕ, zero, suc, ◌+◌, ◌<◌, ◌≤◌, [], ◌∷◌, length, Option, Some, None, refl, sym, ap, arith, get_or, take}
use Rattle.std.proofs.Math.Seq.{take-nil}
use Rattle.std.specs.Prelude.{slice_set}
use Rattle.tree_nodes.specs.Rows.{StoredNode, Rows, row_of_node}
use Rattle.tree_nodes.specs.Drops.{row_weight, drop_weight}

pub row_at-set_same : (rows : Rows) (i : ℕ) (y : Option StoredNode) → i < length rows → row_of_node (slice_set rows i y) i ≡ y
row_at-set_same [] i y l = absurd (omega (arith, l))
row_at-set_same (r ∷ rows) zero y l = refl
row_at-set_same (r ∷ rows) (suc i) y l = row_at-set_same rows i y (omega (arith, l))

pub row_at-set_other : (rows : Rows) (i : ℕ) (y : Option StoredNode) (m : ℕ) → m ≢ i → row_of_node (slice_set rows i y) m ≡ row_of_node rows m
row_at-set_other [] i y m ne = refl
row_at-set_other (r ∷ rows) zero y zero ne = absurd (ne refl)
row_at-set_other (r ∷ rows) zero y (suc m) ne = refl
row_at-set_other (r ∷ rows) (suc i) y zero ne = refl
row_at-set_other (r ∷ rows) (suc i) y (suc m) ne = row_at-set_other rows i y m (λ e. ne (ap suc e))

pub row_at_past : (rows : Rows) (m : ℕ) → length rows ≤ m → row_of_node rows m ≡ None
row_at_past [] m l = refl
row_at_past (r ∷ rows) zero l = absurd (omega (arith, l))
row_at_past (r ∷ rows) (suc m) l = row_at_past rows m (omega (arith, l))

pub row_at_within : (rows : Rows) (m : ℕ) (r : StoredNode) → row_of_node rows m ≡ Some r → m < length rows
row_at_within [] m r e = absurd (cc e)
row_at_within (q ∷ rows) zero r e = omega arith
row_at_within (q ∷ rows) (suc m) r e = let l = row_at_within rows m r e in omega (arith, l)

pub weight-set : (rows : Rows) (i : ℕ) (y : Option StoredNode) → i < length rows
    → drop_weight (slice_set rows i y) + row_weight (row_of_node rows i) ≡ drop_weight rows + row_weight y
weight-set [] i y l = absurd (omega (arith, l))
weight-set (r ∷ rows) zero y l = omega arith
weight-set (r ∷ rows) (suc i) y l =
    let h : drop_weight (slice_set rows i y) + row_weight (row_of_node rows i) ≡ drop_weight rows + row_weight y = weight-set rows i y (omega (arith, l)) in
    omega (arith, h)

pub row_at-read : (rows : Rows) (i : ℕ) (x : Option StoredNode) → i < length rows → x ≡ get_or rows i x → row_of_node rows i ≡ x
row_at-read [] i x l e = absurd (omega (arith, l))
row_at-read (r ∷ rows) zero x l e = sym e
row_at-read (r ∷ rows) (suc i) x l e = row_at-read rows i x (omega (arith, l)) e

pub row_at-take : (rows : Rows) (n m : ℕ) → ((k : ℕ) → n ≤ k → row_of_node rows k ≡ None) → row_of_node (take n rows) m ≡ row_of_node rows m
row_at-take [] n m h = ap (λ (rs : Rows). row_of_node rs m) (take-nil n)
row_at-take (r ∷ rows) zero zero h = sym (h 0 (omega arith))
row_at-take (r ∷ rows) zero (suc m) h = sym (h (suc m) (omega arith))
row_at-take (r ∷ rows) (suc n) zero h = refl
row_at-take (r ∷ rows) (suc n) (suc m) h = row_at-take rows n m (λ k l. h (suc k) (omega (arith, l)))
