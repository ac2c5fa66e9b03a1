use Rattle.std.proofs.Common.{◌≡◌, List, Option, ◌++◌, ◌∙◌, ap, subst}
use Rattle.au_term.specs.Term.{Term}
use Rattle.tree_nodes.specs.Batches.{batched_terms, IsMergeStep}
use Rattle.tree_nodes.proofs.BatchLemmas.{batched_terms-last}
use Rattle.tree_nodes.proofs.merging.push_merged.Goals as goal

pub returns-in-None : goal.returns-in-None
returns-in-None c =
    let last = c.loop-last.last in
    let old = c.loop-last.all.items in
    let new = c.merge_step.new.all.items in
    let same : new ≡ old = subst (λ (o : Option (List Term)). IsMergeStep old new last o) c.in-None.is c.in_ok-next.ensures in
    ap batched_terms c.in_ok-push-in-None.ensures.items ∙ (batched_terms-last new last ∙ (ap (λ (k : List (List Term)). batched_terms k ++ last) same ∙ c.loop-last.invariant))
