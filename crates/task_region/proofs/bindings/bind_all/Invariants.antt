use Rattle.std.proofs.Common.{take}
use Rattle.task_region.specs.MadeInTurn.{Makes}
use Rattle.task_region.proofs.bindings.bind_all.Given as goal

abbrev pub invariant-loop-binding : goal.invariant-loop-binding
invariant-loop-binding l = Makes l.initial.region l.region (take l.binding-index l.bindings)
