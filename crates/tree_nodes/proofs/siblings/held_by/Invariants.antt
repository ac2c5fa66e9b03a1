use Rattle.std.proofs.Common.{take, map}
use Rattle.tree_nodes.specs.Siblings.{alternative_view}
use Rattle.tree_nodes.specs.Held.{AreHeldAmong}
use Rattle.tree_nodes.proofs.siblings.held_by.Given as goal

abbrev pub invariant-loop-alternative : goal.invariant-loop-alternative
invariant-loop-alternative l = AreHeldAmong l.held (map alternative_view (take l.alternative-index l.items))
