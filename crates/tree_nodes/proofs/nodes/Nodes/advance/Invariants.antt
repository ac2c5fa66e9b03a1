use Rattle.std.proofs.Common.{◌≡◌}
use Rattle.tree_nodes.proofs.nodes.Nodes.advance.Given as goal

abbrev pub invariant-loop-i : goal.invariant-loop-i
invariant-loop-i l = l.self ≡ l.initial.self
