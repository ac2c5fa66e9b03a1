use Rattle.std.proofs.Common.{◌≡◌, ◌++◌, drop}
use Rattle.text_load.proofs.assembly.push_procedures.Given as goal

abbrev pub invariant-loop-procedure : goal.invariant-loop-procedure
invariant-loop-procedure l = l.procedures.items ++ drop l.procedure-index l.more ≡ l.fn.procedures.items ++ l.more
