use Rattle.std.proofs.Common.{refl}
use Rattle.tree_model.specs.EventViews.{place_view}
use Rattle.tree_core.specs.Histories.{state_of}
use Rattle.task_world.proofs.FrontLemmas.{closes_as, is_there}
use Rattle.task_world.proofs.front.close.Goals as goal

pub rest_of-requires : goal.rest_of-requires
rest_of-requires g c =
    let v = c.args.tree.now in
    is_there v.history.job v.nodes (state_of v.history) c.args.worker (place_view c.args.at) c.keeps_promises.ensures.nodes.placed c.requires.out

pub returns : goal.returns
returns g c =
    let v = c.args.tree.now in
    let e = c.in_ok-closing.ensures in (
      refl,
      record {
        may = c.requires.may;
        there = e.there;
        sleeper = e.sleeper;
        rests = closes_as v.nodes (state_of v.history) c.args.worker (place_view c.args.at) c.in_ok-closing.closing e.rests c.requires.nothing;
      },
    )
