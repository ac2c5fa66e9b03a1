use Rattle.std.proofs.Common.{◌≡◌, sym, ap, ◌∙◌, subst}
use Rattle.std.specs.Arc.{arc_value}
use Rattle.au_term.specs.declared.segment.Segment.{Segment}
use Rattle.tree_model.specs.EventViews.{place_view}
use Rattle.tree_nodes.specs.Bodies.{body_view}
use Rattle.tree_nodes.specs.Rows.{row_of_node}
use Rattle.tree_nodes.specs.declared.body.NodeBody.{NodeBody}
use Rattle.task_region.specs.MadeInTurn.{CanMake, Makes}
use Rattle.task_region.proofs.BindingLemmas.{stored, can_bind_node, can_bind_branch, makes_branch, makes_node, branch_found, branch_missing}
use Rattle.task_region.proofs.bindings.bind_place.Goals as goal

pub bind_all-requires : goal.bind_all-requires
bind_all-requires c =
    let rows = c.args.nodes.now.rows in
    let body = body_view (arc_value c.body-body.result.now) in
    let is = stored (row_of_node rows c.args.place.node) body c.body-body.ensures.body in
    let same : c.as_slice.result.now ≡ body.segment.bindings
    = c.as_slice.ensures ∙ ap (λ (s : Segment). s.bindings) (c.deref-2.ensures ∙ ap (λ (b : NodeBody). arc_value b.segment) c.deref.ensures) in
    subst (CanMake c.args.region.now) (sym same) (can_bind_node rows (place_view c.args.place) body is c.args.region.now c.requires.can)

pub bind_all-requires-in-Some : goal.bind_all-requires-in-Some
bind_all-requires-in-Some c =
    let rows = c.args.nodes.now.rows in
    let body = body_view (arc_value c.body-body.result.now) in
    let is = stored (row_of_node rows c.args.place.node) body c.body-body.ensures.body in
    let same : c.as_slice.result.now ≡ body.segment.bindings
    = c.as_slice.ensures ∙ ap (λ (s : Segment). s.bindings) (c.deref-2.ensures ∙ ap (λ (b : NodeBody). arc_value b.segment) c.deref.ensures) in
    let made = subst (Makes c.args.region.now c.bind_all.new.region) same c.in_ok-bind_all.ensures in
    let h = c.in-Some.ensures.lookup in
    let branches : c.deref-4.result.now ≡ body.branches = c.deref-4.ensures.value ∙ ap (λ (b : NodeBody). b.branches.items) c.deref-3.ensures in
    let found = branch_found c.deref-4.result.now body.branches c.args.place.alternative c.in-Some.branch.now h.3.0 h.1 branches in
    subst (CanMake c.bind_all.new.region) (sym c.as_slice-in-Some.ensures)
    (can_bind_branch rows (place_view c.args.place) body is c.args.region.now c.bind_all.new.region made c.in-Some.branch.now found c.requires.can)

pub returns-in_ok-bind_all-2 : goal.returns-in_ok-bind_all-2
returns-in_ok-bind_all-2 c =
    let rows = c.args.nodes.now.rows in
    let body = body_view (arc_value c.body-body.result.now) in
    let is = stored (row_of_node rows c.args.place.node) body c.body-body.ensures.body in
    let same : c.as_slice.result.now ≡ body.segment.bindings
    = c.as_slice.ensures ∙ ap (λ (s : Segment). s.bindings) (c.deref-2.ensures ∙ ap (λ (b : NodeBody). arc_value b.segment) c.deref.ensures) in
    let made = subst (Makes c.args.region.now c.bind_all.new.region) same c.in_ok-bind_all.ensures in
    let h = c.in-Some.ensures.lookup in
    let branches : c.deref-4.result.now ≡ body.branches = c.deref-4.ensures.value ∙ ap (λ (b : NodeBody). b.branches.items) c.deref-3.ensures in
    let found = branch_found c.deref-4.result.now body.branches c.args.place.alternative c.in-Some.branch.now h.3.0 h.1 branches in
    makes_branch rows (place_view c.args.place) body is c.args.region.now c.bind_all.new.region made c.bind_all-in-Some.new.region c.in-Some.branch.now found
    (subst (Makes c.bind_all.new.region c.bind_all-in-Some.new.region) c.as_slice-in-Some.ensures c.in_ok-bind_all-2.ensures)

pub returns-in_default : goal.returns-in_default
returns-in_default c =
    let rows = c.args.nodes.now.rows in
    let body = body_view (arc_value c.body-body.result.now) in
    let is = stored (row_of_node rows c.args.place.node) body c.body-body.ensures.body in
    let same : c.as_slice.result.now ≡ body.segment.bindings
    = c.as_slice.ensures ∙ ap (λ (s : Segment). s.bindings) (c.deref-2.ensures ∙ ap (λ (b : NodeBody). arc_value b.segment) c.deref.ensures) in
    let made = subst (Makes c.args.region.now c.bind_all.new.region) same c.in_ok-bind_all.ensures in
    let branches : c.deref-4.result.now ≡ body.branches = c.deref-4.ensures.value ∙ ap (λ (b : NodeBody). b.branches.items) c.deref-3.ensures in
    makes_node rows (place_view c.args.place) body is c.args.region.now c.bind_all.new.region made
    (branch_missing c.deref-4.result.now body.branches c.args.place.alternative c.in_default.ensures.lookup.3 branches)
