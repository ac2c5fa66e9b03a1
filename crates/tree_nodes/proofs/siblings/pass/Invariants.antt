use Rattle.std.proofs.Common.{◌-◌, length, map}
use Rattle.tree_nodes.specs.Siblings.{alternative_view, ArePassed}
use Rattle.tree_nodes.proofs.siblings.pass.Given as goal

abbrev pub invariant-loop-passed : goal.invariant-loop-passed
invariant-loop-passed l = ArePassed (map alternative_view l.items) l.passed

abbrev pub decreases-loop-passed : goal.decreases-loop-passed
decreases-loop-passed l = length l.items - l.passed.many
