use Rattle.std.proofs.Common.{refl}
use Rattle.effect_gate.specs.Effects.{world_meant}
use Rattle.tree_model.specs.EventViews.{place_view}
use Rattle.tree_core.specs.Histories.{state_of}
use Rattle.task_world.specs.FrontItems.{terms_named}
use Rattle.task_world.proofs.AnswerLemmas.{answer_closes, answered_world}
use Rattle.task_world.proofs.FrontLemmas.{is_there}
use Rattle.task_world.proofs.answer.answer_at_front.Goals as goal

pub rest_of_answer-requires : goal.rest_of_answer-requires
rest_of_answer-requires g c =
    let v = c.args.tree.now in
    is_there v.history.job v.nodes (state_of v.history) c.args.worker (place_view c.args.at) c.keeps_promises.ensures.nodes.placed c.requires.out

pub returns-clause-comes : goal.returns-clause-comes
returns-clause-comes g c =
    let v = c.args.tree.now in
    let e = c.in_ok-closing.ensures in (
      refl,
      record {
        may = c.requires.may;
        there = e.there;
        sleeper = e.sleeper;
        rests =
            answer_closes v.nodes (state_of v.history) (terms_named c.args.store.now c.args.names.now) c.args.worker (place_view c.args.at)
            c.in_ok-closing.closing e.rests c.requires.answer;
      },
    )

pub returns-clause-world : goal.returns-clause-world
returns-clause-world g c =
    answered_world c.args.tree.now.history (terms_named c.args.store.now c.args.names.now) c.args.worker (place_view c.args.at)
    (world_meant c.args.world.now) (world_meant c.write_answer.new.world) c.requires.world c.requires.answer c.requires.may c.requires.out
    c.in_ok-write_answer.ensures.written
