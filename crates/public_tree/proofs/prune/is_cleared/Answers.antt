use Rattle.std.proofs.Common.{Bool, sym, ◌∙◌, subst}
use Rattle.tree_model.specs.EventViews.{place_view}
use Rattle.tree_nodes.specs.Rows.{scope_number}
use Rattle.public_tree.specs.PublicPruning.{IsClearedAt}
use Rattle.public_tree.proofs.PruningLemmas.{not_pending}
use Rattle.public_tree.proofs.prune.is_cleared.Goals as goal

pub returns-else-is_pending-clause-cleared : goal.returns-else-is_pending-clause-cleared
returns-else-is_pending-clause-cleared c =
    let nodes = c.args.nodes.now in
    let a = place_view c.args.at in
    subst (λ (b : Bool). IsClearedAt nodes a (scope_number c.args.scope) b) (sym c.if-is_pending.false)
    (not_pending nodes a (scope_number c.args.scope) (sym c.is_pending.ensures ∙ c.if-is_pending.false))
