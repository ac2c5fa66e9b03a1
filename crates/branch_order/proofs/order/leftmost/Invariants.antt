use Rattle.std.proofs.Common.{◌-◌, length}
use Rattle.branch_order.specs.Leftmosts.{GoesDown}
use Rattle.branch_order.proofs.order.leftmost.Given as goal

abbrev pub invariant-loop-at : goal.invariant-loop-at
invariant-loop-at l = GoesDown l.nodes l.node

abbrev pub decreases-loop-at : goal.decreases-loop-at
decreases-loop-at l = length l.nodes.rows - l.node
