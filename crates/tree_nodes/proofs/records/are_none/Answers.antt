use Rattle.tree_nodes.proofs.BatchLemmas.{batched_terms-some}
use Rattle.std.proofs.Common.{sym}
use Rattle.tree_nodes.proofs.records.are_none.Goals as goal

pub returns-in-Some-clause-some : goal.returns-in-Some-clause-some
returns-in-Some-clause-some c = batched_terms-some c.args.batches.now c.in-Some.first.now (sym c.in-Some.ensures.value) c.len-many.ensures.some
