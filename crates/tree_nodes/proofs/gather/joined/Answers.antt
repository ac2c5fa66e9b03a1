use Rattle.std.proofs.Common.{◌≡◌, ◌≢◌, List, [], ◌++◌, ap, ◌∙◌, subst}
use Rattle.std.specs.Prelude.{reverse}
use Rattle.std.proofs.lemmas.Result.{IfOk-weaker}
use Rattle.au_term.specs.Term.{Term}
use Rattle.tree_nodes.specs.Batches.{batched_terms}
use Rattle.tree_nodes.proofs.BatchLemmas.{batched_terms-append, some-behind}
use Rattle.tree_nodes.proofs.SomeLemmas.{on_err}
use Rattle.tree_nodes.proofs.gather.joined.Goals as goal

pub returns-in_err-append-clause-some : goal.returns-in_err-append-clause-some
returns-in_err-append-clause-some c =
    let some : batched_terms c.args.behind.items ≢ [] = subst (λ (k : List (List Term)). batched_terms k ≢ []) c.deref.ensures.value c.if-are_none.ensures.some in
    on_err c.from_residual.result _ (some-behind (batched_terms (reverse c.args.before.items)) (batched_terms c.args.behind.items) some)

pub returns-clause-records : goal.returns-clause-records
returns-clause-records c =
    let all : batched_terms c.append.new.self.items ≡ batched_terms (reverse c.args.before.items) ++ batched_terms c.args.behind.items
    = ap batched_terms c.in_ok-append.ensures.items ∙ (batched_terms-append c.reverse.new.self.items c.args.behind.items
    ∙ ap (λ (k : List (List Term)). batched_terms k ++ batched_terms c.args.behind.items) c.reverse.ensures.items) in
    IfOk-weaker c.all_of-2.result _ _ (λ x e. e ∙ all) c.all_of-2.ensures.records

pub returns-clause-some : goal.returns-clause-some
returns-clause-some c =
    let some : batched_terms c.args.behind.items ≢ [] = subst (λ (k : List (List Term)). batched_terms k ≢ []) c.deref.ensures.value c.if-are_none.ensures.some in
    on_err c.all_of-2.result _ (some-behind (batched_terms (reverse c.args.before.items)) (batched_terms c.args.behind.items) some)
