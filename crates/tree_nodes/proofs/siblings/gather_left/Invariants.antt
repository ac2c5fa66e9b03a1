use Rattle.std.proofs.Common.{◌≡◌, ◌-◌, drop, map, length}
use Rattle.tree_nodes.specs.Siblings.{alternative_view}
use Rattle.tree_nodes.specs.Gathering.{with_left}
use Rattle.tree_nodes.proofs.siblings.gather_left.Given as goal

abbrev pub invariant-loop-i : goal.invariant-loop-i
invariant-loop-i l = l.gathered ≡ with_left (map alternative_view (drop (length l.alternatives - l.i) l.alternatives)) l.initial.gathered
