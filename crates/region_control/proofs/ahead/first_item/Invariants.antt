use Rattle.std.proofs.Common.{◌+◌, length}
use Rattle.region_split.specs.Regions.{items_here}
use Rattle.region_control.proofs.AheadLemmas.{IsPassing}
use Rattle.region_control.proofs.ahead.first_item.Given as goal

abbrev pub invariant-loop-item : goal.invariant-loop-item
invariant-loop-item l = IsPassing l.region l.fn.position l.next

abbrev pub decreases-loop-item : goal.decreases-loop-item
decreases-loop-item l = length (items_here l.region l.next) + l.next.frame
