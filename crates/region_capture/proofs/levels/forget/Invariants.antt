use Rattle.std.proofs.Common.{take}
use Rattle.region_capture.specs.NeededBindings.{Forgets}
use Rattle.region_capture.proofs.levels.forget.Given as goal

abbrev pub invariant-loop-variable : goal.invariant-loop-variable
invariant-loop-variable l = Forgets (take l.variable-index l.variables) l.fn.seen l.seen
