use Rattle.std.proofs.Common.{◌≡◌, ◌++◌, take}
use Rattle.task_publishing.proofs.steps.joined.Given as goal

abbrev pub invariant-loop-binding : goal.invariant-loop-binding
invariant-loop-binding l = l.all ≡ l.fn.before ++ take l.binding-index l.fn.further
