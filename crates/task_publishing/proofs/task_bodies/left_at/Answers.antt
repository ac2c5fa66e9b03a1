use Rattle.std.proofs.Common.{◌≡◌, length, get_or, refl, ap, ◌∙◌, arith}
use Rattle.tree_nodes.specs.Bodies.{body_view}
use Rattle.tree_nodes.specs.Rows.{alternatives_at, row_of_node}
use Rattle.tree_nodes.specs.declared.body.NodeBody.{NodeBody}
use Rattle.task_publishing.proofs.BodyLemmas.{within, branch_at, got_or}
use Rattle.task_publishing.proofs.task_bodies.left_at.Goals as goal

pub index-branch-requires : goal.index-branch-requires
index-branch-requires c =
    let r = within (alternatives_at (row_of_node c.args.nodes.now.rows c.args.at.node)) c.args.at.alternative c.requires in
    let h = c.body.ensures.branches in
    let d = ap (λ (b : NodeBody). length b.branches.items) c.deref.ensures in
    omega (arith, r, h, d)

pub returns-in-Some : goal.returns-in-Some
returns-in-Some c =
    let body = c.body.result.now.value in
    let at = c.args.at.alternative in
    let branch = c.index-branch.result.now in
    let r = within (alternatives_at (row_of_node c.args.nodes.now.rows c.args.at.node)) at c.requires in
    let h = c.body.ensures.branches in
    let there : branch ≡ get_or body.branches.items at branch
    = c.index-branch.ensures ∙ ap (λ (b : NodeBody). get_or b.branches.items at branch) c.deref.ensures in
    branch_at c.args.nodes.now _ (body_view body) branch branch.goals c.in-Some.base c.body.ensures.body
    (got_or body.branches.items at branch branch (omega (arith, r, h)) there) refl c.in-Some.ensures.1
