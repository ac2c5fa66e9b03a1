use Rattle.std.proofs.Common.{◌≡◌, map}
use Rattle.std.specs.Map.Iter.{deref}
use Rattle.dyn_clauses.specs.PositionIndex.{numbered_clauses, picked}
use Rattle.clause_compile.specs.CompiledClauses.{shown}
use Rattle.dyn_clauses.proofs.procedure.Procedure.matching.Given as goal

abbrev pub invariant-loop-position : goal.invariant-loop-position
invariant-loop-position l = map shown l.found.items ≡ numbered_clauses (picked (map deref l.yielded) l.self)
