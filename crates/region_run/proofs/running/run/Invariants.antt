use Rattle.std.proofs.Common.{◌≤◌, ◌-◌}
use Rattle.region_run.proofs.RunLemmas.{IsRunning}
use Rattle.region_run.proofs.running.run.Given as goal

abbrev pub invariant-loop-taken : goal.invariant-loop-taken
invariant-loop-taken l = IsRunning l.fn.region l.region l.fn.start l.next l.taken × (l.taken ≤ l.fn.limit)

abbrev pub decreases-loop-taken : goal.decreases-loop-taken
decreases-loop-taken l = l.fn.limit - l.taken
