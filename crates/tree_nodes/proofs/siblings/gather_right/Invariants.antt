use Rattle.std.proofs.Common.{◌≡◌, drop, map}
use Rattle.tree_nodes.specs.Siblings.{alternative_view}
use Rattle.tree_nodes.specs.Gathering.{with_right_credits}
use Rattle.tree_nodes.proofs.siblings.gather_right.Given as goal

abbrev pub invariant-loop-alternative : goal.invariant-loop-alternative
invariant-loop-alternative l = with_right_credits l.initial.gathered (map alternative_view l.alternatives)
    ≡ with_right_credits l.gathered (map alternative_view (drop l.alternative-index l.alternatives))
