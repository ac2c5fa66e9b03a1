use Rattle.std.proofs.Common.{◌≡◌, map}
use Rattle.std.specs.Map.Iter.{deref_pair}
use Rattle.dyn_clauses.specs.KeyedClauses.{placed_entry}
use Rattle.dyn_clauses.proofs.procedure.Procedure.copy.Given as goal

abbrev pub invariant-loop-position : goal.invariant-loop-position
invariant-loop-position l = l.copy ≡ map placed_entry (map deref_pair l.yielded)
