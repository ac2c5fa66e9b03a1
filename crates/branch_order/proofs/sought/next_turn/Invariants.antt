use Rattle.std.proofs.Common.{ℕ, ◌-◌}
use Rattle.branch_order.specs.Sought.{test_of, IsAheadFrom}
use Rattle.branch_order.proofs.sought.next_turn.Given as goal

abbrev pub invariant-loop-alternative : goal.invariant-loop-alternative
invariant-loop-alternative l = (most : ℕ) → IsAheadFrom l.nodes (test_of l.sought) l.fn.from.node l.fn.from.alternative most
    → IsAheadFrom l.nodes (test_of l.sought) l.node l.alternative most

abbrev pub decreases-loop-alternative : goal.decreases-loop-alternative
decreases-loop-alternative l = l.width - l.alternative
