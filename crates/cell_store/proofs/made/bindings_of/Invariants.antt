use Rattle.std.proofs.Common.{◌≡◌, take}
use Rattle.cell_store.specs.MadeBindings.{bindings_of}
use Rattle.cell_store.proofs.made.bindings_of.Given as goal

abbrev pub invariant-loop-variable : goal.invariant-loop-variable
invariant-loop-variable l = l.bindings.items ≡ bindings_of l.cells (take l.variable-index l.variables)
