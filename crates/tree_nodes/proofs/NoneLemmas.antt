-- Where no sum has records.
use Rattle.std.proofs.Common.{◌≡◌, ℕ, zero, suc, List, [], ◌∷◌, ◌++◌, Option, Some, take, drop, refl, ap, ◌∙◌}
use Rattle.std.specs.Prelude.{slice_get}
use Rattle.au_term.specs.Term.{Term}
use Rattle.tree_model.specs.Credits.{Credit}
use Rattle.tree_model.specs.Levels.{Place}
use Rattle.tree_nodes.specs.Rows.{AlternativeCell, PendingCell, InnerCell, ClosedCell, StoredNode, Rows, alternatives_at}
use Rattle.tree_nodes.specs.Gathering.{closed_in, add_left, add_right, with_left, with_right_credits, IsFolding, FoldsWithRecords}
use Rattle.tree_nodes.specs.Folds.{AreWithoutRecords}

abbrev HaveNone : List (ℕ × AlternativeCell) → Type 0
HaveNone cells = (i spent : ℕ) (d : Credit) → slice_get cells i ≡ Some (spent, ClosedCell d) → d.records ≡ []

none_in-take : (n : ℕ) (cells : List (ℕ × AlternativeCell)) → HaveNone cells → HaveNone (take n cells)
none_in-take zero cells h i spent d e = absurd (cc e)
none_in-take (suc n) [] h i spent d e = absurd (cc e)
none_in-take (suc n) (x ∷ cells) h zero spent d e = h zero spent d e
none_in-take (suc n) (x ∷ cells) h (suc i) spent d e = none_in-take n cells (λ j. h (suc j)) i spent d e

none_in-drop : (n : ℕ) (cells : List (ℕ × AlternativeCell)) → HaveNone cells → HaveNone (drop n cells)
none_in-drop zero cells h i spent d e = h i spent d e
none_in-drop (suc n) [] h i spent d e = absurd (cc e)
none_in-drop (suc n) (x ∷ cells) h i spent d e = none_in-drop n cells (λ j. h (suc j)) i spent d e

abbrev IsNone : ℕ × AlternativeCell → Type 0
IsNone x = (spent : ℕ) (d : Credit) → Some x ≡ Some (spent, ClosedCell d) → d.records ≡ []

add_left_none : (spent : ℕ) (x : AlternativeCell) (c : Credit) → IsNone (spent, x)
    → c.records ≡ [] → (add_left (closed_in x) c).records ≡ []
add_left_none spent (PendingCell hold) c h e = e
add_left_none spent (InnerCell n) c h e = e
add_left_none spent (ClosedCell d) c h e = ap (λ (k : List Term). k ++ c.records) (h spent d refl) ∙ e

add_right_none : (spent : ℕ) (x : AlternativeCell) (c : Credit) → IsNone (spent, x)
    → c.records ≡ [] → (add_right c (closed_in x)).records ≡ []
add_right_none spent (PendingCell hold) c h e = e
add_right_none spent (InnerCell n) c h e = e
add_right_none spent (ClosedCell d) c h e = ap (λ (k : List Term). k ++ d.records) e ∙ h spent d refl

left_none : (cells : List (ℕ × AlternativeCell)) (c : Credit) → HaveNone cells → c.records ≡ [] → (with_left cells c).records ≡ []
left_none [] c h e = e
left_none (x ∷ cells) c h e = add_left_none x.0 x.1 (with_left cells c) (h zero) (left_none cells c (λ j. h (suc j)) e)

right_none : (c : Credit) (cells : List (ℕ × AlternativeCell)) → HaveNone cells → c.records ≡ [] → (with_right_credits c cells).records ≡ []
right_none c [] h e = e
right_none c (x ∷ cells) h e = right_none (add_right c (closed_in x.1)) cells (λ j. h (suc j)) (add_right_none x.0 x.1 c (h zero) e)

-- a step adds none
pub step_none : (rows : Rows) (at above : Place) (c total : Credit) → AreWithoutRecords rows → IsFolding rows at above c total → c.records ≡ []
    → total.records ≡ []
step_none rows at above c total h f e =
    let cells : HaveNone f.row.cells = (λ i spent d k. h (record { node = at.node; index = i }) spent d
    (ap (λ (o : Option StoredNode). slice_get (alternatives_at o) i) f.here ∙ k)) in
    let right : (with_right_credits c (drop (suc at.index) f.row.cells)).records ≡ [] = right_none c (drop (suc at.index) f.row.cells)
    (none_in-drop (suc at.index) f.row.cells cells) e in
    ap (λ (t : Credit). t.records) f.sum
    ∙ left_none (take at.index f.row.cells) (with_right_credits c (drop (suc at.index) f.row.cells)) (none_in-take at.index f.row.cells cells) right

pub step_is_none : (rows : Rows) (at : Place) (c : Credit) → AreWithoutRecords rows → FoldsWithRecords rows at c → c.records ≡ [] → ⊥
step_is_none rows at c h f e = f.some (step_none rows at f.above c f.total h f.folds e)
