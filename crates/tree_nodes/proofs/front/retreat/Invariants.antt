use Rattle.std.proofs.Common.{◌≡◌, ◌++◌, List, length}
use Rattle.tree_nodes.specs.declared.front.Front.{Front}
use Rattle.tree_nodes.proofs.front.retreat.Given as goal

abbrev pub invariant-loop-front : goal.invariant-loop-front
invariant-loop-front l = (past : List Front) × (l.initial.front.items ≡ l.front.items ++ past)

abbrev pub decreases-loop-front : goal.decreases-loop-front
decreases-loop-front l = length l.front.items
