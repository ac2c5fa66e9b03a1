use Rattle.std.proofs.Common.{◌≡◌, ◌++◌, map, drop}
use Rattle.std.specs.Arc.{arc_value}
use Rattle.text_load.specs.LoadedTexts.{clauses_beside}
use Rattle.text_load.proofs.assembly.push_beside.Given as goal

abbrev pub invariant-loop-clause : goal.invariant-loop-clause
invariant-loop-clause l =
    map arc_value l.clauses.items ++ clauses_beside l.text (map arc_value (drop l.clause-index l.library))
    ≡ map arc_value l.fn.clauses.items ++ clauses_beside l.text (map arc_value l.library)
