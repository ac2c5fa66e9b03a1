use Rattle.std.proofs.Common.{◌≡◌, ℕ, ◌++◌, List, length, map}
use Rattle.run_model.specs.Machine.Items.{Item}
use Rattle.region_split.specs.Regions.{items_here}
use Rattle.region_capture.specs.CapturedItems.{AddsItems, HasItems, captured_item}
use Rattle.region_capture.proofs.positions.capture_items.Given as goal

abbrev pub invariant-loop-item : goal.invariant-loop-item
invariant-loop-item l = record {
  done : List (Item ℕ);
  has : HasItems l.items l.number done;
  whole : map captured_item l.left.items ++ done ≡ items_here l.region l.fn.position;
  adds : AddsItems l.fn.items l.items;
}

abbrev pub decreases-loop-item : goal.decreases-loop-item
decreases-loop-item l = length l.left.items
