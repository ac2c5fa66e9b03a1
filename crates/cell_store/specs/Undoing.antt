-- What undoing leaves: bindings of variables that were there at a mark are taken back by the trail, and what came later
-- is cut off.
use Rattle.std.specs.Prelude.{ℕ, ◌<◌, ◌≤◌, List, [], ◌∷◌, ◌++◌, length, take, drop, replicate, slice_set}
use Rattle.au_model.specs.Terms.Each.{Each}
use Rattle.binding_array.specs.declared.cell.BindingCell.{BindingCell}
use Rattle.binding_array.specs.declared.cell.BindingCell.TheVariants.{Free}
use Rattle.cell_store.specs.HeapView.{HeapView}
use Rattle.cell_store.specs.declared.mark.Mark.{Mark}

-- the parts of a store; the first of the marks is that of its floor
pub record Parts : Type 0 where
  pub heap : HeapView
  pub cells : List BindingCell
  pub trail : List ℕ
  pub marks : List Mark

-- cells with the variables of a trail freed
abbrev pub freed : List ℕ → List BindingCell → List BindingCell
freed [] cells = cells
freed (v ∷ vs) cells = slice_set (freed vs cells) v Free

-- the cells as they were at a mark
abbrev pub undone : Mark → List ℕ → List BindingCell → List BindingCell
undone m trail cells = take m.variables (freed (drop m.trail trail) cells)

-- one mark is older than another
pub record IsOlderMark (m n : Mark) : Type 0 where
  pub trail : m.trail ≤ n.trail
  pub variables : m.variables ≤ n.variables
  pub made : m.made ≤ n.made

-- each mark is older than those after it
abbrev pub AreNested : List Mark → Type 0
AreNested [] = Unit {0}
AreNested (m ∷ ms) = Each (IsOlderMark m) ms × AreNested ms

-- the marks of a store: that of its floor, and those over it
pub record MarksView : Type 0 where
  pub floor : Mark
  pub marks : List Mark

-- so many marks at a floor, and later ones
abbrev pub marks_over : Mark → ℕ → List Mark → List Mark
marks_over floor n later = replicate n floor ++ later

-- a mark of how a store is
abbrev pub mark_now : Parts → Mark
mark_now p = record { trail = length p.trail; variables = length p.cells; made = length p.heap.made }

-- a mark that was made, with what was on the trail then
pub record IsWithin (p : Parts) (m : Mark) : Type 0 where
  pub older : IsOlderMark m (mark_now p)
  pub there : Each (λ v. v < m.variables) (take m.trail p.trail)
