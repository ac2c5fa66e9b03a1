use Rattle.std.proofs.Common.{◌≡◌, get_or, slice_get, Some, sym, ap, ◌∙◌, arith}
use Rattle.std.specs.Arc.{arc_value}
use Rattle.tree_model.specs.EventViews.{place_view}
use Rattle.tree_nodes.specs.Bodies.{body_view, kind_view}
use Rattle.tree_nodes.specs.Rows.{alternatives_at, row_of_node}
use Rattle.tree_nodes.specs.declared.body.NodeBody.{NodeBody}
use Rattle.task_stops.specs.GatheredResults.{gathered_view, unifying_item}
use Rattle.task_stops.proofs.WokenLemmas.{got_at, second_within, made_woken, following_made, same_made}
use Rattle.task_publishing.proofs.BodyLemmas.{if_ok}
use Rattle.task_stops.proofs.woken.body_beside.Goals as goal

pub returns-in_ok-goals-in-Findall : goal.returns-in_ok-goals-in-Findall
returns-in_ok-goals-in-Findall c =
    let rows = c.args.nodes.now.rows in
    let body = arc_value c.body-body.result.now in
    let second = c.index-second.result.now in
    let many = c.body-body.ensures.branches in
    let most = second_within (alternatives_at (row_of_node rows c.args.at.node)) c.requires.asleep in
    let there : slice_get body.branches.items 1 ≡ Some second = got_at body.branches.items 1 second (omega (arith, many, most))
    (c.index-second.ensures ∙ ap (λ (b : NodeBody). get_or b.branches.items 1 second) c.deref.ensures) in
    let all = gathered_view c.in_ok-all-in-Findall.all in
    let item = c.in_ok-item-in-Findall.ensures ∙ ap (unifying_item c.args.at.node c.in-Findall.list) c.deref-in-Findall-3.ensures.value in
    let view = c.in_ok-all-in-Findall.ensures in
    if_ok c.quiet_body.result _ _ c.quiet_body.ensures
    (λ woken made.
    made_woken rows (place_view c.args.at) c.args.records.now (body_view (arc_value woken)) (body_view body) second _ c.body-body.ensures.body there
    (ap kind_view (ap (λ (b : NodeBody). b.kind) (sym c.deref-2.ensures) ∙ c.in-Findall.is))
    (following_made (body_view (arc_value woken)) c.args.at.node c.args.records.now c.in-Findall.results.items c.in-Findall.list second c.in-Some.next
    c.in_ok-goals-in-Findall.goals c.in_ok-item-in-Findall.item all made c.in_ok-goals-in-Findall.ensures item
    (view ∙ cc (c.deref-in-Findall.ensures.value, c.deref-in-Findall-2.ensures.value, c.in_ok-records-in-Findall.ensures)) c.in-Some.ensures.1))

pub returns-in-Choice : goal.returns-in-Choice
returns-in-Choice c =
    let rows = c.args.nodes.now.rows in
    let body = arc_value c.body-body.result.now in
    let second = c.index-second.result.now in
    let many = c.body-body.ensures.branches in
    let most = second_within (alternatives_at (row_of_node rows c.args.at.node)) c.requires.asleep in
    let there : slice_get body.branches.items 1 ≡ Some second = got_at body.branches.items 1 second (omega (arith, many, most))
    (c.index-second.ensures ∙ ap (λ (b : NodeBody). get_or b.branches.items 1 second) c.deref.ensures) in
    if_ok c.same_body.result _ _ c.same_body.ensures
    (λ woken made.
    made_woken rows (place_view c.args.at) c.args.records.now (body_view (arc_value woken)) (body_view body) second _ c.body-body.ensures.body there
    (ap kind_view (ap (λ (b : NodeBody). b.kind) (sym c.deref-2.ensures) ∙ c.in-Choice.is))
    (same_made (body_view (arc_value woken)) second c.in-Some.next made c.in-Some.ensures.1))

pub returns-in-Condition : goal.returns-in-Condition
returns-in-Condition c =
    let rows = c.args.nodes.now.rows in
    let body = arc_value c.body-body.result.now in
    let second = c.index-second.result.now in
    let many = c.body-body.ensures.branches in
    let most = second_within (alternatives_at (row_of_node rows c.args.at.node)) c.requires.asleep in
    let there : slice_get body.branches.items 1 ≡ Some second = got_at body.branches.items 1 second (omega (arith, many, most))
    (c.index-second.ensures ∙ ap (λ (b : NodeBody). get_or b.branches.items 1 second) c.deref.ensures) in
    if_ok c.same_body-in-Condition.result _ _ c.same_body-in-Condition.ensures
    (λ woken made.
    made_woken rows (place_view c.args.at) c.args.records.now (body_view (arc_value woken)) (body_view body) second _ c.body-body.ensures.body there
    (ap kind_view (ap (λ (b : NodeBody). b.kind) (sym c.deref-2.ensures) ∙ c.in-Condition.is))
    (same_made (body_view (arc_value woken)) second c.in-Some.next made c.in-Some.ensures.1))

pub returns-in-Catch : goal.returns-in-Catch
returns-in-Catch c =
    let rows = c.args.nodes.now.rows in
    let body = arc_value c.body-body.result.now in
    let second = c.index-second.result.now in
    let many = c.body-body.ensures.branches in
    let most = second_within (alternatives_at (row_of_node rows c.args.at.node)) c.requires.asleep in
    let there : slice_get body.branches.items 1 ≡ Some second = got_at body.branches.items 1 second (omega (arith, many, most))
    (c.index-second.ensures ∙ ap (λ (b : NodeBody). get_or b.branches.items 1 second) c.deref.ensures) in
    if_ok c.same_body-in-Catch.result _ _ c.same_body-in-Catch.ensures
    (λ woken made.
    made_woken rows (place_view c.args.at) c.args.records.now (body_view (arc_value woken)) (body_view body) second _ c.body-body.ensures.body there
    (ap kind_view (ap (λ (b : NodeBody). b.kind) (sym c.deref-2.ensures) ∙ c.in-Catch.is))
    (same_made (body_view (arc_value woken)) second c.in-Some.next made c.in-Some.ensures.1))

pub returns-in-Query : goal.returns-in-Query
returns-in-Query c =
    let rows = c.args.nodes.now.rows in
    let body = arc_value c.body-body.result.now in
    let second = c.index-second.result.now in
    let many = c.body-body.ensures.branches in
    let most = second_within (alternatives_at (row_of_node rows c.args.at.node)) c.requires.asleep in
    let there : slice_get body.branches.items 1 ≡ Some second = got_at body.branches.items 1 second (omega (arith, many, most))
    (c.index-second.ensures ∙ ap (λ (b : NodeBody). get_or b.branches.items 1 second) c.deref.ensures) in
    if_ok c.same_body-in-Query.result _ _ c.same_body-in-Query.ensures
    (λ woken made.
    made_woken rows (place_view c.args.at) c.args.records.now (body_view (arc_value woken)) (body_view body) second _ c.body-body.ensures.body there
    (ap kind_view (ap (λ (b : NodeBody). b.kind) (sym c.deref-2.ensures) ∙ c.in-Query.is))
    (same_made (body_view (arc_value woken)) second c.in-Some.next made c.in-Some.ensures.1))
