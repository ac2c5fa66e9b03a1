use Rattle.std.proofs.Common.{◌≡◌, take, map}
use Rattle.task_world.specs.FrontItems.{value_named}
use Rattle.task_world.proofs.answer.values_of.Given as goal

abbrev pub invariant-loop-name : goal.invariant-loop-name
invariant-loop-name l = l.values.items ≡ map (value_named l.store) (take l.name-index l.names)
