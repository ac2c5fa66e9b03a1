-- Cells behind those of the variables.
use Rattle.std.specs.Prelude.{◌≡◌, ℕ, ◌<◌, ◌≤◌, List, length}
use Rattle.binding_array.specs.Represented.{variable_cell, AreFalling}
use Rattle.binding_array.specs.declared.cell.BindingCell.{BindingCell}
use Rattle.binding_array.specs.declared.cell.BindingCell.TheVariants.{Free}

-- the cells of so many variables, and free ones behind them
pub record HasSpareCells (count : ℕ) (cells : List BindingCell) : Type 0 where
  pub fits : count ≤ length cells
  pub falling : AreFalling cells
  pub free : (v : ℕ) → count ≤ v → variable_cell cells v ≡ Free

-- at least so many cells, of which the new ones are free
pub record AddsFreeCells (to : ℕ) (before after : List BindingCell) : Type 0 where
  pub fits : to ≤ length after
  pub same : (v : ℕ) → variable_cell after v ≡ variable_cell before v

-- the cells from one number up to another are free, and the others are as they were
pub record AreFreed (from to : ℕ) (before after : List BindingCell) : Type 0 where
  pub fits : length after ≡ length before
  pub freed : (v : ℕ) → from ≤ v → v < to → variable_cell after v ≡ Free
  pub below : (v : ℕ) → v < from → variable_cell after v ≡ variable_cell before v
  pub above : (v : ℕ) → to ≤ v → variable_cell after v ≡ variable_cell before v
