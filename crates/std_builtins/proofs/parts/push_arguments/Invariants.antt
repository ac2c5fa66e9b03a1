use Rattle.std.proofs.Common.{◌≡◌, ◌++◌}
use Rattle.au_term.specs.Term.{arguments}
use Rattle.run_model.specs.Goals.ListForms.{items_of}
use Rattle.std_builtins.proofs.parts.push_arguments.Given as goal

abbrev pub invariant-loop-cells : goal.invariant-loop-cells
invariant-loop-cells l = l.parts.items ++ items_of l.cells-iterator ≡ l.initial.parts.items ++ items_of (arguments l.fn.term)
