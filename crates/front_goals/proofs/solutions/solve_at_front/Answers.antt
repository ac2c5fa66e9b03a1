use Rattle.std.proofs.Common.{◌≡◌, get_or, Some, slice_get, vec_len, sym, ap, ◌∙◌, subst, arith}
use Rattle.std.specs.Prelude.{IsSome}
use Rattle.std.specs.Arc.{arc_value}
use Rattle.clause_compile.specs.declared.event.Branch.{Branch}
use Rattle.tree_model.specs.EventViews.{place_view}
use Rattle.tree_nodes.specs.Bodies.{Body, body_view}
use Rattle.tree_nodes.specs.Rows.{cell_at}
use Rattle.tree_nodes.specs.TreeTables.{NodesView}
use Rattle.tree_nodes.specs.declared.body.NodeBody.{NodeBody}
use Rattle.tree_core.specs.Histories.{state_of}
use Rattle.task_world.specs.FrontSteps.{LeavesBehind}
use Rattle.task_world.proofs.FrontLemmas.{is_there}
use Rattle.cell_store.specs.StoreView.{StoreView}
use Rattle.front_goals.specs.SolutionBranches.{HasBranches}
use Rattle.front_goals.proofs.KeptLemmas.{kept_after}
use Rattle.front_goals.proofs.SolutionLemmas.{SolutionLaws, first_got, goes_on_as, none_there, nothing_left, some_there}
use Rattle.front_goals.proofs.solutions.solve_at_front.Goals as goal

pub body_behind-requires : goal.body_behind-requires
body_behind-requires g c =
    let v = c.args.tree.now in
    let a = place_view c.args.at in
    subst (λ (n : NodesView). IsSome (cell_at n.rows a)) (sym c.nodes.ensures)
    (is_there v.history.job v.nodes (state_of v.history) c.args.worker a c.keeps_promises.ensures.nodes.placed c.requires.out)

pub close-requires-clause-nothing : goal.close-requires-clause-nothing
close-requires-clause-nothing g c =
    let v = c.args.tree.now in
    let a = place_view c.args.at in
    let rest : Body = body_view (arc_value c.in_ok-behind.behind) in
    let laws : SolutionLaws = record {
      numbered = c.numbered_trees_are_settled.ensures;
      scoped = c.floor_items_stay.ensures.scoped;
      branches = record { bind = c.settled_segments_bind.ensures.bind; empty = c.settled_segments_bind.ensures.empty; read = c.branches_read_bound.ensures.read };
    } in
    let left : LeavesBehind v.nodes.rows a rest = subst (λ (n : NodesView). LeavesBehind n.rows a rest) c.nodes.ensures c.in_ok-behind.ensures.left in
    let first : Branch = c.index.result.now in
    let first_is : slice_get rest.branches 0 ≡ Some first = first_got rest first _ left.rest.branches (c.index.ensures ∙ ap (λ (b : NodeBody). get_or b.branches.items 0 first) c.deref.ensures) in
    nothing_left laws v.history.job v.nodes (state_of v.history) c.args.worker a c.keeps_promises.ensures.nodes.placed c.stays_legal.ensures c.args.region c.args.solutions c.requires.there
    c.requires.next c.requires.bound rest left first first_is c.in_ok-branches.branches.items c.in_ok-branches.ensures.branches
    (none_there c.in_ok-branches.branches.items (vec_len c.in_ok-branches.branches) c.is_empty.result (let k = c.in_ok-branches.branches.ok.0 in omega (arith, k)) c.is_empty.ensures c.if-is_empty.true)

pub go_on_at_front-requires-clause-goes_on : goal.go_on_at_front-requires-clause-goes_on
go_on_at_front-requires-clause-goes_on g c =
    let v = c.args.tree.now in
    let a = place_view c.args.at in
    let rest : Body = body_view (arc_value c.in_ok-behind.behind) in
    let laws : SolutionLaws = record {
      numbered = c.numbered_trees_are_settled.ensures;
      scoped = c.floor_items_stay.ensures.scoped;
      branches = record { bind = c.settled_segments_bind.ensures.bind; empty = c.settled_segments_bind.ensures.empty; read = c.branches_read_bound.ensures.read };
    } in
    let left : LeavesBehind v.nodes.rows a rest = subst (λ (n : NodesView). LeavesBehind n.rows a rest) c.nodes.ensures c.in_ok-behind.ensures.left in
    let first : Branch = c.index.result.now in
    let first_is : slice_get rest.branches 0 ≡ Some first = first_got rest first _ left.rest.branches (c.index.ensures ∙ ap (λ (b : NodeBody). get_or b.branches.items 0 first) c.deref.ensures) in
    let number : c.from-next.result ≡ c.args.region.store.now.next = c.from-next.ensures ∙ (c.next.ensures.next ∙ ap (λ (st : StoreView). st.now.next) c.store.ensures.store) in
    let has = subst (λ n. HasBranches n c.in_ok-branches.branches.items (body_view (arc_value c.in_ok-body.body))) number c.in_ok-body.ensures in
    goes_on_as laws v.history.job v.nodes (state_of v.history) c.args.worker a c.keeps_promises.ensures.nodes.placed c.stays_legal.ensures c.args.region c.args.solutions c.requires.there
    c.requires.next c.requires.bound rest left first first_is c.in_ok-branches.branches.items c.in_ok-branches.ensures.branches (body_view (arc_value c.in_ok-body.body)) has
    (some_there c.in_ok-branches.branches.items (vec_len c.in_ok-branches.branches) c.is_empty.result (let k = c.in_ok-branches.branches.ok.0 in omega (arith, k)) c.is_empty.ensures c.if-is_empty.false)

pub returns-clause-kept : goal.returns-clause-kept
returns-clause-kept g c =
    kept_after c.kept_regions_stay.ensures.stay c.args.tree.now.nodes.rows c.go_on_at_front.new.self.nodes.rows (place_view c.args.at) (arc_value c.args.text.now) c.args.numbers.items c.args.region
    c.solution_branches.new.region c.in_ok-kept.kept c.go_on_at_front.ensures.made c.requires.kept c.in_ok-branches.ensures.back.floor c.in_ok-branches.ensures.back.text c.in_ok-kept.ensures
