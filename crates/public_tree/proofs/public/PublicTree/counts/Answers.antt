use Rattle.std.proofs.Common.{◌≡◌, ℕ, Option, Some, None, refl, ◌∙◌, subst}
use Rattle.tree_model.specs.EventViews.{place_view}
use Rattle.tree_model.specs.TreeStates.{TreeState, counts}
use Rattle.tree_nodes.specs.Bodies.{Reading}
use Rattle.tree_nodes.specs.Rows.{row_of_node, alternatives_at}
use Rattle.tree_nodes.specs.Siblings.{counts_from}
use Rattle.branch_order.specs.Leftmosts.{IsLeftmost}
use Rattle.public_tree.specs.contracts.public.PublicTree.{the_view}
use Rattle.public_tree.specs.PublicTrees.{PublicView, IsPublicOf, Answers}
use Rattle.public_tree.proofs.CountLemmas.{counts_at_first, counts_nothing, counts_on_branch}
use Rattle.public_tree.proofs.public.PublicTree.counts.Goals as goal

pub returns-in-Some : goal.returns-in-Some
returns-in-Some c =
    let a = place_view c.in-Some.first in
    subst (λ (p : PublicView). Answers p counts c.counts.result) c.self.view_is
    (λ read t h. counts_on_branch (the_view c.self.inside) a c.counts.result.0 c.counts.result.1 read t h c.in-Some.ensures.first c.counts.ensures)

by_first : (p : PublicView) (read : Reading) (t : TreeState) → IsPublicOf p read t → IsLeftmost p.nodes None → (k : ℕ × ℕ)
    → ((n : ℕ) → p.nodes.first ≡ Some n → k ≡ counts_from (0, 0) (alternatives_at (row_of_node p.nodes.rows n)))
    → (p.nodes.first ≡ None → k ≡ (0, 0)) → k ≡ counts t
by_first p read t h closed k some nothing = go p.nodes.first refl
  where
    go : (o : Option ℕ) → p.nodes.first ≡ o → k ≡ counts t
    go None e = nothing e ∙ counts_nothing p read t h closed e
    go (Some n) e = some n e ∙ counts_at_first p read t h closed n e

pub returns-in-None : goal.returns-in-None
returns-in-None c =
    subst (λ (p : PublicView). Answers p counts c.closed_counts.result) c.self.view_is
    (λ read t h. by_first (the_view c.self.inside) read t h c.in-None.ensures.first c.closed_counts.result c.closed_counts.ensures.first c.closed_counts.ensures.empty)
