-- The cells of new alternatives, made one by one.
use Rattle.std.proofs.Common.{◌≡◌, ℕ, zero, suc, ◌+◌, length, List, [], ◌∷◌, ◌++◌, refl, ap, ◌∙◌, arith}
use Rattle.tree_nodes.specs.Bodies.{BodyKind, first_hold}
use Rattle.tree_nodes.specs.Rows.{AlternativeCell, PendingCell}
use Rattle.tree_nodes.specs.RowViews.{new_cells}

pub new_cells-more : (kind : BodyKind) (i k : ℕ) → new_cells kind i (k + 1) ≡ new_cells kind i k ++ (0, PendingCell (first_hold kind (i + k))) ∷ []
new_cells-more kind i zero = ap (λ (j : ℕ). (0, PendingCell (first_hold kind j)) ∷ []) (let e : i ≡ i + 0 = omega arith in e)
new_cells-more kind i (suc k) =
    let shift : suc i + k ≡ i + suc k = omega arith in
    let one : suc k + 1 ≡ suc (k + 1) = omega arith in
    ap (new_cells kind i) one
    ∙ (ap (λ (cells : List (ℕ × AlternativeCell)). (0, PendingCell (first_hold kind i)) ∷ cells) (new_cells-more kind (suc i) k)
    ∙ ap (λ (j : ℕ). (0, PendingCell (first_hold kind i)) ∷ (new_cells kind (suc i) k ++ (0, PendingCell (first_hold kind j)) ∷ [])) shift)

pub length-new_cells : (kind : BodyKind) (i k : ℕ) → length (new_cells kind i k) ≡ k
length-new_cells kind i zero = refl
length-new_cells kind i (suc k) = ap suc (length-new_cells kind (suc i) k)
