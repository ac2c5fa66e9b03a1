use Rattle.std.proofs.Common.{length, []}
use Rattle.region_split.specs.Backtracking.{resumed_entries}
use Rattle.region_control.proofs.AheadLemmas.{IsGoingAhead}
use Rattle.region_control.proofs.ahead.look_further.Given as goal

abbrev pub invariant-loop-now : goal.invariant-loop-now
invariant-loop-now l = IsGoingAhead l.fn.region l.region l.fn.start l.now

abbrev pub decreases-loop-now : goal.decreases-loop-now
decreases-loop-now l = length (resumed_entries [] l.region l.now)
