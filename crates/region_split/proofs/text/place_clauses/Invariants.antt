use Rattle.std.proofs.Common.{map, take}
use Rattle.std.specs.Arc.{arc_value}
use Rattle.region_split.specs.Texts.{ArePlacedClauses, AreHeadKeys}
use Rattle.region_split.proofs.text.place_clauses.Given as goal

abbrev pub invariant-loop-clause : goal.invariant-loop-clause
invariant-loop-clause l = ArePlacedClauses l.code l.bodies.items (map arc_value (take l.clause-index l.clauses)) l.placed.items × AreHeadKeys l.code.names (map arc_value (take l.clause-index l.clauses)) l.heads.items
