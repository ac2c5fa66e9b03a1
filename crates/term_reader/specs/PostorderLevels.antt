-- The state of the turning of cells.
use Rattle.std.specs.Prelude.{◌≡◌, List, reverse}
use Rattle.au_term.specs.declared.cell.Cell.{Cell}
use Rattle.term_reader.specs.declared.order.Pending.{Pending}
use Rattle.term_reader.specs.Postorder.{Levels, posts, finals, lower_levels_pending, levels_pending, IsBusy}

-- what waits, what is left and what has come stand for levels of these cells
pub record IsReordering (cells : List Cell) (stack : List Pending) (out whole : List Cell) : Type 0 where
  pub levels : Levels
  pub opened : stack ≡ levels_pending levels
  pub busy : IsBusy levels
  pub left : cells ≡ posts levels
  pub come : finals levels (reverse out) ≡ whole

-- the same while a term is just complete
pub record IsCompleting (cells : List Cell) (stack : List Pending) (out whole : List Cell) : Type 0 where
  pub levels : Levels
  pub opened : stack ≡ lower_levels_pending levels
  pub left : cells ≡ posts levels
  pub come : finals levels (reverse out) ≡ whole
