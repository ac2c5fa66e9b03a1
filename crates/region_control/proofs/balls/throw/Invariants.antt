use Rattle.std.proofs.Common.{◌≡◌, length}
use Rattle.region_control.proofs.ThrowLemmas.{IsUnwinding}
use Rattle.region_control.proofs.balls.throw.Given as goal

abbrev pub invariant-loop-mark : goal.invariant-loop-mark
invariant-loop-mark l = IsUnwinding l.fn.region l.region l.ball l.fn.position l.mark × ((l.region.text ≡ l.fn.region.text) × (l.region.store.floor ≡ l.fn.region.store.floor))

abbrev pub decreases-loop-mark : goal.decreases-loop-mark
decreases-loop-mark l = length l.region.choices
