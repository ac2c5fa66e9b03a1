use Rattle.std.proofs.Common.{◌≡◌, take}
use Rattle.au_term.proofs.cell.share_all.Given as goal

abbrev pub invariant-loop-cell : goal.invariant-loop-cell
invariant-loop-cell l = l.shared.items ≡ take l.cell-index l.cells
