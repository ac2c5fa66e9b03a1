use Rattle.std.proofs.Common.{◌≡◌, ◌++◌, take}
use Rattle.au_term.proofs.builder.TermBuilder.push_each.Given as goal

abbrev pub invariant-loop-cell : goal.invariant-loop-cell
invariant-loop-cell l = l.self ≡ l.fn.self ++ take l.cell-index l.cells
