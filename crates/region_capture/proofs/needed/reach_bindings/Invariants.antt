use Rattle.std.proofs.Common.{take}
use Rattle.au_model.specs.Terms.Each.{Each}
use Rattle.region_capture.specs.KeptLevels.{IsBindingReached}
use Rattle.region_capture.specs.NeededBindings.{SeesMore}
use Rattle.region_capture.proofs.needed.reach_bindings.Given as goal

abbrev pub invariant-loop-binding : goal.invariant-loop-binding
invariant-loop-binding l = record {
  more : SeesMore l.store l.first l.fn.needed l.needed;
  done : Each (IsBindingReached l.store.now.next l.needed.seen) (take l.binding-index l.bindings);
}
