use Rattle.std.proofs.Common.{map, take}
use Rattle.std.specs.Arc.{arc_value}
use Rattle.proc_index.specs.ProcedureIndex.{IsIndexOf}
use Rattle.proc_index.proofs.procs.Procs.new.Given as goal

abbrev pub invariant-loop-place : goal.invariant-loop-place
invariant-loop-place l = IsIndexOf l.index (map arc_value (take l.place l.clause-items))
