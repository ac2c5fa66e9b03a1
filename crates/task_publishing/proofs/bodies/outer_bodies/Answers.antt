use Rattle.std.proofs.Common.{◌≡◌, List, [], ◌∷◌, ◌++◌, sym, ap, ◌∙◌, subst}
use Rattle.tree_nodes.specs.Bodies.{body_view}
use Rattle.tree_nodes.specs.declared.body.NodeBody.{NodeBody}
use Rattle.public_tree.specs.Publishing.{bodies_view}
use Rattle.task_publishing.specs.declared.steps.LiveChoice.{LiveChoice}
use Rattle.task_publishing.proofs.MadeLemmas.{BodiesUpTo, one_body, bodies_snoc}
use Rattle.task_publishing.proofs.bodies.outer_bodies.Goals as goal

pub loop-choice-preserved : goal.loop-choice-preserved
loop-choice-preserved c =
    let g = c.args.goals.now in
    let all = c.args.choices.items in
    let left = c.next.new.self.rest.items in
    let was = subst (λ (xs : List LiveChoice). BodiesUpTo g all xs (bodies_view c.loop-choice.bodies.items)) c.in-Some.ensures.steps.0
    c.loop-choice.invariant in
    let more : bodies_view c.push.new.self.items ≡ bodies_view c.loop-choice.bodies.items ++ body_view c.in_ok-body.body ∷ []
    = ap bodies_view c.in_ok-push.ensures.items ∙ (bodies_snoc c.loop-choice.bodies.items c.in_ok-new.field-0
    ∙ ap (λ (b : NodeBody). bodies_view c.loop-choice.bodies.items ++ body_view b ∷ []) c.in_ok-new.ensures.ok) in
    subst (λ xs. BodiesUpTo g all left xs) (sym more)
    (one_body g all left (bodies_view c.loop-choice.bodies.items) c.in-Some.choice (body_view c.in_ok-body.body) was
    (record { first = c.leading_branch-first.result; leads = c.leading_branch-first.ensures; body = c.in_ok-body.ensures }))
