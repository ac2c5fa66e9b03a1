use Rattle.std.proofs.Common.{◌≡◌, ◌≤◌, length, drop}
use Rattle.au_term.specs.PrefixOrder.{terms_of}
use Rattle.clause_compile.specs.Places.{Keeps, ArePlacesOf, meanings}
use Rattle.clause_compile.proofs.code.Code.push_cells.Given as goal

abbrev pub invariant-loop-left : goal.invariant-loop-left
invariant-loop-left l = record {
  within : l.left ≤ length l.cells;
  keeps : Keeps l.fn.self l.self;
  stand : ArePlacesOf l.self l.stack.items;
  means : meanings l.self l.stack.items ≡ terms_of (drop l.left l.cells);
}

abbrev pub decreases-loop-left : goal.decreases-loop-left
decreases-loop-left l = l.left
