use Rattle.std.proofs.Common.{◌≡◌, ◌++◌, map, drop}
use Rattle.std.specs.Arc.{arc_value}
use Rattle.text_load.proofs.assembly.push_all.Given as goal

abbrev pub invariant-loop-clause : goal.invariant-loop-clause
invariant-loop-clause l = map arc_value l.clauses.items ++ map arc_value (drop l.clause-index l.more) ≡ map arc_value l.fn.clauses.items ++ map arc_value l.more
