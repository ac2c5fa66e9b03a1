use Rattle.std.proofs.Common.{◌≡◌, take}
use Rattle.tree_nodes.specs.Batches.{batched_terms}
use Rattle.tree_nodes.proofs.records.copied.Given as goal

abbrev pub invariant-loop-batch : goal.invariant-loop-batch
invariant-loop-batch l = l.all.items ≡ batched_terms (take l.batch-index l.batches)
