use Rattle.std.proofs.Common.{sym, ap, ◌∙◌, subst}
use Rattle.std.specs.Arc.{arc_value}
use Rattle.tree_model.specs.EventViews.{place_view}
use Rattle.tree_model.specs.Pruning.{is_findall}
use Rattle.tree_nodes.specs.declared.body.NodeBody.{NodeBody}
use Rattle.tree_nodes.specs.Bodies.{kind_view, node_kind, body_view}
use Rattle.prune_ops.specs.Falls.{IsGoalSide}
use Rattle.prune_ops.proofs.FallLemmas.{goal_side}
use Rattle.prune_ops.proofs.landing.is_goal_side.Goals as goal

pub returns-then-at-eq0 : goal.returns-then-at-eq0
returns-then-at-eq0 c =
    let nodes = c.args.nodes.now in
    let a = place_view c.args.at in
    let b = body_view (arc_value c.body.result.now) in
    subst (IsGoalSide nodes a) (sym (c.is_findall.ensures ∙ ap (λ (x : NodeBody). is_findall (node_kind (kind_view x.kind))) c.deref.ensures))
    (goal_side nodes a b c.if-at-eq0.true c.body.ensures.body)
