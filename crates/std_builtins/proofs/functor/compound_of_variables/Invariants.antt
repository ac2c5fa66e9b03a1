use Rattle.std.proofs.Common.{◌≡◌, ◌+◌, ◌-◌, ◌++◌}
use Rattle.au_term.specs.Term.{Compound}
use Rattle.au_term.specs.PrefixOrder.{cells_of, all_cells}
use Rattle.run_model.specs.Goals.TermParts.{new_variables}
use Rattle.std_builtins.proofs.functor.compound_of_variables.Given as goal

abbrev pub invariant-loop-i : goal.invariant-loop-i
invariant-loop-i l = l.builder ++ all_cells (new_variables (l.next + l.i) (l.count - l.i)) ≡ cells_of (Compound l.fn.name (new_variables l.next l.count))
