use Rattle.std.proofs.Common.{refl}
use Rattle.effect_gate.specs.Effects.{world_meant}
use Rattle.tree_model.specs.EventViews.{place_view}
use Rattle.tree_core.specs.Histories.{state_of}
use Rattle.task_world.proofs.FrontLemmas.{is_there}
use Rattle.task_world.proofs.EndLemmas.{closes_last, ended_world}
use Rattle.task_world.proofs.ending.end_last.Goals as goal

pub rest_of-requires : goal.rest_of-requires
rest_of-requires g c =
    let v = c.args.tree.now in
    is_there v.history.job v.nodes (state_of v.history) c.args.worker (place_view c.args.at) c.keeps_promises.ensures.nodes.placed c.requires.out

pub returns-clause-comes : goal.returns-clause-comes
returns-clause-comes g c =
    let v = c.args.tree.now in
    let e = c.in_ok-closing.ensures in (
      refl,
      record {
        may = c.requires.may;
        there = e.there;
        sleeper = e.sleeper;
        rests =
            closes_last v.history v.nodes c.args.ball c.args.worker (place_view c.args.at) c.requires.ends c.in_ok-closing.closing c.requires.last e.rests;
      },
    )

pub returns-clause-world : goal.returns-clause-world
returns-clause-world g c =
    let v = c.args.tree.now in
    ended_world v.history v.nodes c.args.ball c.args.worker (place_view c.args.at) c.requires.ends c.requires.may c.requires.out
    (world_meant c.args.world.now) (world_meant c.write_end.new.world) c.requires.world c.in_ok-write_end.ensures.written
