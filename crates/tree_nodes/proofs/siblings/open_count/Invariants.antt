use Rattle.std.proofs.Common.{◌≡◌, take, map}
use Rattle.tree_nodes.specs.Siblings.{alternative_view, open_count}
use Rattle.tree_nodes.proofs.siblings.open_count.Given as goal

abbrev pub invariant-loop-alternative : goal.invariant-loop-alternative
invariant-loop-alternative l = l.open ≡ open_count (map alternative_view (take l.alternative-index l.items))
