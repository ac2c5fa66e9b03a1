use Rattle.std.proofs.Common.{Bool, sym, ◌∙◌, subst}
use Rattle.tree_model.specs.EventViews.{place_view}
use Rattle.public_tree.specs.PublicTrees.{IsLeftmostAt}
use Rattle.public_tree.proofs.AnsweringLemmas.{not_open}
use Rattle.public_tree.proofs.answering.has_turn.Goals as goal

pub returns-else-is_pending-clause-first : goal.returns-else-is_pending-clause-first
returns-else-is_pending-clause-first c =
    let nodes = c.args.nodes.now in
    let a = place_view c.args.at in
    subst (λ (b : Bool). IsLeftmostAt nodes a b) (sym c.if-is_pending.false) (not_open nodes a (sym c.is_pending.ensures ∙ c.if-is_pending.false))
