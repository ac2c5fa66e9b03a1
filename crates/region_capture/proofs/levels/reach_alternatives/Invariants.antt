use Rattle.std.proofs.Common.{take}
use Rattle.au_model.specs.Terms.Each.{Each}
use Rattle.region_capture.specs.KeptLevels.{ReachesAlternative}
use Rattle.region_capture.specs.NeededBindings.{SeesMore}
use Rattle.region_capture.proofs.levels.reach_alternatives.Given as goal

abbrev pub invariant-loop-alternative : goal.invariant-loop-alternative
invariant-loop-alternative l = record {
  more : SeesMore l.store l.first l.fn.needed l.needed;
  done : Each (ReachesAlternative l.store.now.next l.needed.seen l.items) (take l.alternative-index l.alternatives);
}
