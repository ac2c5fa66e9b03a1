use Rattle.tree_nodes.specs.Gaps.{IsFlat}
use Rattle.tree_nodes.proofs.gaps.no_gaps.Given as goal

abbrev pub invariant-loop-i : goal.invariant-loop-i
invariant-loop-i l = IsFlat l.gaps.items
