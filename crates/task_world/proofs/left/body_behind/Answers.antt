use Rattle.std.proofs.Common.{◌≡◌, length, get_or, ap, ◌∙◌, subst, arith}
use Rattle.std.specs.Arc.{arc_value}
use Rattle.tree_model.specs.EventViews.{place_view}
use Rattle.tree_nodes.specs.Bodies.{body_view}
use Rattle.tree_nodes.specs.Rows.{alternatives_at, row_of_node}
use Rattle.tree_nodes.specs.declared.body.NodeBody.{NodeBody}
use Rattle.branch_shapes.specs.RestBodies.{IsRestBody, items_behind}
use Rattle.task_world.proofs.BranchLemmas.{within, left_behind, got_or, if_ok}
use Rattle.task_world.proofs.left.body_behind.Goals as goal

pub index-branch-requires : goal.index-branch-requires
index-branch-requires c =
    let r = within (alternatives_at (row_of_node c.args.nodes.now.rows c.args.at.node)) c.args.at.alternative c.requires in
    let h = c.body.ensures.branches in
    let d = ap (λ (b : NodeBody). length b.branches.items) c.deref.ensures in
    omega (arith, r, h, d)

pub returns-in-Some : goal.returns-in-Some
returns-in-Some c =
    let body = c.body.result.now.value in
    let at = c.args.at.alternative in
    let branch = c.index-branch.result.now in
    let r = within (alternatives_at (row_of_node c.args.nodes.now.rows c.args.at.node)) at c.requires in
    let h = c.body.ensures.branches in
    let there : branch ≡ get_or body.branches.items at branch
    = c.index-branch.ensures ∙ ap (λ (b : NodeBody). get_or b.branches.items at branch) c.deref.ensures in
    record {
      left = if_ok c.rest_body.result _ _ c.rest_body.ensures.rest
          (λ made rest. left_behind c.args.nodes.now (place_view c.args.at) (body_view body) branch (body_view (arc_value made)) c.body.ensures.body
          (got_or body.branches.items at branch branch (omega (arith, r, h)) there)
          (subst (λ n. IsRestBody (items_behind branch.goals) n (body_view (arc_value made))) c.in-Some.ensures.1 rest));
      whole = c.rest_body.ensures.whole;
    }
