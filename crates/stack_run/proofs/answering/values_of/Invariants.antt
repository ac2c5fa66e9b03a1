use Rattle.std.proofs.Common.{◌≡◌, take, map}
use Rattle.stack_run.specs.MachineView.{value_in}
use Rattle.stack_run.proofs.answering.values_of.Given as goal

abbrev pub invariant-loop-name : goal.invariant-loop-name
invariant-loop-name l = l.values.items ≡ map (value_in l.store) (take l.name-index l.names)
