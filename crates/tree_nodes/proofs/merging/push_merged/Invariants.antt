use Rattle.std.proofs.Common.{◌≡◌, ◌++◌, length}
use Rattle.tree_nodes.specs.Batches.{batched_terms}
use Rattle.tree_nodes.proofs.merging.push_merged.Given as goal

abbrev pub invariant-loop-last : goal.invariant-loop-last
invariant-loop-last l = batched_terms l.all.items ++ l.last ≡ batched_terms l.initial.all.items ++ l.initial.last

abbrev pub decreases-loop-last : goal.decreases-loop-last
decreases-loop-last l = length l.all.items
