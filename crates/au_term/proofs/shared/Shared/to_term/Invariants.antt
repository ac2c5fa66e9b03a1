use Rattle.std.proofs.Common.{◌≡◌, map, take}
use Rattle.au_term.specs.Shifted.{shifted_cell}
use Rattle.au_term.proofs.shared.Shared.to_term.Given as goal

abbrev pub invariant-loop-cell : goal.invariant-loop-cell
invariant-loop-cell l = l.shifted.items ≡ map (shifted_cell l.base) (take l.cell-index l.cells)
