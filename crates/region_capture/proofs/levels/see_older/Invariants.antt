use Rattle.region_capture.proofs.LevelLemmas.{SeesTo}
use Rattle.region_capture.proofs.levels.see_older.Given as goal

abbrev pub invariant-loop-variable : goal.invariant-loop-variable
invariant-loop-variable l = SeesTo l.store l.variables l.variable-index l.fn.seen l.needed
