use Rattle.std.proofs.Common.{◌≡◌, ◌+◌, ◌++◌, length, map}
use Rattle.region_split.specs.Regions.{IsPositionIn, items_here}
use Rattle.region_capture.specs.CapturedItems.{captured_item}
use Rattle.region_capture.proofs.positions.items_left.Given as goal

abbrev pub invariant-loop-item : goal.invariant-loop-item
invariant-loop-item l = record {
  position : IsPositionIn l.region l.position;
  items : map captured_item l.items.items ++ items_here l.region l.position ≡ items_here l.fn.region l.fn.position;
}

abbrev pub decreases-loop-item : goal.decreases-loop-item
decreases-loop-item l = length (items_here l.region l.position) + l.position.frame
