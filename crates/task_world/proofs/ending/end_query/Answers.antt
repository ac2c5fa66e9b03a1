use Rattle.std.proofs.Common.{sym, ◌∙◌}
use Rattle.effect_gate.specs.Effects.{world_meant}
use Rattle.tree_model.specs.EventViews.{place_view}
use Rattle.task_world.proofs.EventLemmas.{ended_comes, ended_world, later_comes, later_world}
use Rattle.task_world.proofs.ending.end_query.Goals as goal

pub returns-then-not-is_going-clause-comes : goal.returns-then-not-is_going-clause-comes
returns-then-not-is_going-clause-comes g c =
    ended_comes c.args.tree.now c.args.worker (place_view c.args.at) (sym c.is_going.ensures ∙ c.if-not-is_going.true)

pub returns-then-not-is_going-clause-world : goal.returns-then-not-is_going-clause-world
returns-then-not-is_going-clause-world g c =
    ended_world c.args.tree.now c.args.worker (place_view c.args.at) (world_meant c.args.world.now) c.requires.world
    (sym c.is_going.ensures ∙ c.if-not-is_going.true)

pub returns-then-not-is_front-clause-comes : goal.returns-then-not-is_front-clause-comes
returns-then-not-is_front-clause-comes g c =
    later_comes c.args.tree.now c.args.worker (place_view c.args.at) (sym c.is_going.ensures ∙ c.if-not-is_going.false)
    (sym c.is_front.ensures ∙ c.if-not-is_front.true)

pub returns-then-not-is_front-clause-world : goal.returns-then-not-is_front-clause-world
returns-then-not-is_front-clause-world g c =
    later_world c.args.tree.now c.args.worker (place_view c.args.at) (world_meant c.args.world.now) c.requires.world
    (sym c.is_front.ensures ∙ c.if-not-is_front.true)
