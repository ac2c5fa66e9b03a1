use Rattle.std.proofs.Common.{true, false, subst}
use Rattle.effect_gate.specs.Effects.{world_meant}
use Rattle.tree_model.specs.EventViews.{place_view}
use Rattle.region_world.specs.WorldGoals.{RemovesClause}
use Rattle.task_world.proofs.BranchLemmas.{if_ok}
use Rattle.task_world.proofs.RemovalLemmas.{leaves_nothing, leaves_rest, world_after}
use Rattle.task_world.proofs.removal.remove_at_front.Goals as goal

pub go_on-requires-clause-leaves : goal.go_on-requires-clause-leaves
go_on-requires-clause-leaves g c =
    let old = world_meant c.args.world.now in
    let new = world_meant c.removes_clause.new.world in
    leaves_rest c.args.tree.now.history c.args.clause c.args.worker (place_view c.args.at) old new c.requires.world c.requires.removal
    (subst (RemovesClause c.args.clause old new) c.if-branch.true c.in_ok-removes_clause.ensures.removes)

pub close-requires-clause-nothing : goal.close-requires-clause-nothing
close-requires-clause-nothing g c =
    let old = world_meant c.args.world.now in
    let new = world_meant c.removes_clause.new.world in
    leaves_nothing c.args.tree.now.history c.args.clause c.args.worker (place_view c.args.at) old new c.requires.world c.requires.removal
    (subst (RemovesClause c.args.clause old new) c.if-branch.false c.in_ok-removes_clause.ensures.removes)

pub returns-then-branch-clause-world : goal.returns-then-branch-clause-world
returns-then-branch-clause-world g c =
    let old = world_meant c.args.world.now in
    let new = world_meant c.removes_clause.new.world in
    if_ok c.go_on.result _ _ c.go_on.ensures.comes
    (λ step comes. world_after c.args.tree.now.history c.args.clause c.args.worker (place_view c.args.at) old new c.requires.world c.requires.removal
    c.requires.may c.requires.out true (subst (RemovesClause c.args.clause old new) c.if-branch.true c.in_ok-removes_clause.ensures.removes))

pub returns-else-branch-clause-world : goal.returns-else-branch-clause-world
returns-else-branch-clause-world g c =
    let old = world_meant c.args.world.now in
    let new = world_meant c.removes_clause.new.world in
    if_ok c.close.result _ _ c.close.ensures
    (λ step comes. world_after c.args.tree.now.history c.args.clause c.args.worker (place_view c.args.at) old new c.requires.world c.requires.removal
    c.requires.may c.requires.out false (subst (RemovesClause c.args.clause old new) c.if-branch.false c.in_ok-removes_clause.ensures.removes))
