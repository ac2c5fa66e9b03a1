use Rattle.std.proofs.Common.{◌≢◌, [], refl, ◌∙◌, subst}
use Rattle.tree_model.specs.Credits.{Credit}
use Rattle.tree_nodes.proofs.CreditLemmas.{same_credit}
use Rattle.tree_nodes.proofs.SomeLemmas.{on_err}
use Rattle.tree_nodes.proofs.gather.Gathered.finish.Goals as goal

pub returns-clause-sum : goal.returns-clause-sum
returns-clause-sum c = same_credit _ _ _ _ _ _ refl refl c.in_ok-joined.ensures.records ∙ c.self.view_is

pub returns-in_err-joined-clause-some : goal.returns-in_err-joined-clause-some
returns-in_err-joined-clause-some c =
    on_err c.from_residual.result _ (subst (λ (k : Credit). k.records ≢ []) c.self.view_is c.in_err-joined.ensures.some)
