-- The node of a query.
use Rattle.std.proofs.Common.{◌∷◌, [], ◌++◌, ap, ◌∙◌}
use Rattle.std.specs.Arc.{arc_value}
use Rattle.tree_nodes.specs.Bodies.{body_view}
use Rattle.branch_reading.proofs.QueryLemmas.{opens}
use Rattle.branch_reading.proofs.queries.query_body.Goals as goal

pub returns-clause-opens : goal.returns-clause-opens
returns-clause-opens c =
    let node = c.in_ok-new-2.ensures.ok in
    opens c.args.goals c.args.vars c.in_ok-end_branch.field-0 (body_view (arc_value c.in_ok-new-2.field-0)) c.in_ok-end_branch.ensures
    (cc (c.in_ok-new.ensures.ok, c.segment_of-2.ensures, node)) (ap (λ b. b.branches.items) node ∙ c.in_ok-push-2.ensures.items
    ∙ ap (λ bs. bs ++ c.in_ok-end_branch.field-0 ∷ []) (c.in_ok-push.ensures.items ∙ ap
    (λ bs. bs ++ record { goals = c.args.goals; segment = c.segment_of.result } ∷ []) c.new-branches.ensures.items)
    ∙ ap (λ s. record { goals = c.args.goals; segment = s } ∷ c.in_ok-end_branch.field-0 ∷ []) c.segment_of.ensures)
    (cc node)
