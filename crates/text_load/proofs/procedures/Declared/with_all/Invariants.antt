use Rattle.std.proofs.Common.{◌≡◌, ◌++◌}
use Rattle.text_load.proofs.procedures.Declared.with_all.Given as goal

abbrev pub invariant-loop-procedure : goal.invariant-loop-procedure
invariant-loop-procedure l = l.all ≡ l.fn.self ++ l.yielded
