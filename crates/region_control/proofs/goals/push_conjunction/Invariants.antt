use Rattle.cell_store.specs.Arguments.{sizes}
use Rattle.region_control.proofs.GoalLemmas.{ArePutting, pending_terms}
use Rattle.region_control.proofs.goals.push_conjunction.Given as goal

abbrev pub invariant-loop-value : goal.invariant-loop-value
invariant-loop-value l = ArePutting l.fn.region l.region l.fn.body l.cut l.fn.after l.next l.pending.items

abbrev pub decreases-loop-value : goal.decreases-loop-value
decreases-loop-value l = sizes (pending_terms l.fn.region.store l.pending.items)
