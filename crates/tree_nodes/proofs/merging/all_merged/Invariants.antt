use Rattle.std.proofs.Common.{◌≡◌, take}
use Rattle.tree_nodes.specs.Batches.{batched_terms}
use Rattle.tree_nodes.proofs.merging.all_merged.Given as goal

abbrev pub invariant-loop-batch : goal.invariant-loop-batch
invariant-loop-batch l = batched_terms l.all.items ≡ batched_terms (take l.batch-index l.batches)
