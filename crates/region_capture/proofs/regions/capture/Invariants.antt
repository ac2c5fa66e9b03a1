use Rattle.std.proofs.Common.{length}
use Rattle.region_capture.specs.CapturedItems.{AddsItems}
use Rattle.region_capture.proofs.CaptureLemmas.{CapturesDownTo}
use Rattle.region_capture.proofs.regions.capture.Given as goal

abbrev pub invariant-loop-alloc : goal.invariant-loop-alloc
invariant-loop-alloc l = record {
  captured : CapturesDownTo l.fn.region l.region l.floor l.items l.choices.items l.fn.position l.current.bindings l.seen;
  adds : AddsItems l.initial.items l.items;
}

abbrev pub decreases-loop-alloc : goal.decreases-loop-alloc
decreases-loop-alloc l = length l.region.choices
