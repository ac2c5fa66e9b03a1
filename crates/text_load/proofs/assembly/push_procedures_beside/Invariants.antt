use Rattle.std.proofs.Common.{◌≡◌, ◌++◌, drop}
use Rattle.text_load.specs.LoadedTexts.{procedures_beside}
use Rattle.text_load.proofs.assembly.push_procedures_beside.Given as goal

abbrev pub invariant-loop-procedure : goal.invariant-loop-procedure
invariant-loop-procedure l = l.procedures.items ++ procedures_beside l.text (drop l.procedure-index l.library) ≡ l.fn.procedures.items ++ procedures_beside l.text l.library
