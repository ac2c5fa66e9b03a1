use Rattle.region_capture.specs.NeededBindings.{WritesSeen}
use Rattle.region_capture.proofs.levels.write_seen.Given as goal

abbrev pub invariant-loop-variable : goal.invariant-loop-variable
invariant-loop-variable l = WritesSeen l.store l.first l.variable l.fn.needed l.needed
