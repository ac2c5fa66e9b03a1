use Rattle.std.proofs.Common.{List, ◌++◌, ◌∙◌, sym, ap}
use Rattle.au_term.specs.Term.{Term}
use Rattle.tree_nodes.specs.Batches.{batched_terms}
use Rattle.tree_nodes.proofs.BatchLemmas.{joined_more}
use Rattle.tree_nodes.proofs.merging.all_merged.Goals as goal

pub loop-batch-preserved : goal.loop-batch-preserved
loop-batch-preserved c =
    let i = c.loop-batch.batch-index in
    let x = c.batch-item.result in
    c.in_ok-push_merged.ensures ∙ (ap (λ (k : List Term). batched_terms c.loop-batch.all.items ++ k) c.in_ok-share.ensures
    ∙ (ap (λ (k : List Term). k ++ x) c.loop-batch.invariant ∙ sym (joined_more c.args.batches.now i x c.loop-batch-test.true c.batch-item.is)))
