use Rattle.std.proofs.Common.{◌≡◌, map}
use Rattle.std.specs.Map.Iter.{deref_pair}
use Rattle.dyn_clauses.specs.PositionIndex.{numbered_clauses}
use Rattle.dyn_clauses.specs.KeyedClauses.{placed_entry}
use Rattle.clause_compile.specs.CompiledClauses.{shown}
use Rattle.dyn_clauses.proofs.procedure.Procedure.all.Given as goal

abbrev pub invariant-loop-position : goal.invariant-loop-position
invariant-loop-position l = map shown l.found.items ≡ numbered_clauses (map placed_entry (map deref_pair l.yielded))
