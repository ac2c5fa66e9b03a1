use Rattle.std.proofs.lemmas.Result.{IfOk-weaker}
use Rattle.run_model.specs.Goals.Worlds.{world_step}
use Rattle.cell_store.specs.StoreView.{meaning}
use Rattle.effect_gate.specs.Effects.{world_meant}
use Rattle.region_world.proofs.goal.world_goal.Goals as goal

pub answer_taken-requires-clause-tells : goal.answer_taken-requires-clause-tells
answer_taken-requires-clause-tells c =
    let r = c.args.region.now in
    record { reply = (world_step r.text.clauses (meaning r.store c.args.goal) r.store.now.next (world_meant c.args.world.now)).1; tells = c.in_ok-answer.ensures.answers.reply }

pub returns-clause-takes : goal.returns-clause-takes
returns-clause-takes c =
    let r = c.args.region.now in
    let a = c.in_ok-answer.ensures.answers in
    IfOk-weaker c.answer_taken.result _ _
    (λ left k. record {
      world = a.world;
      reply = k (world_step r.text.clauses (meaning r.store c.args.goal) r.store.now.next (world_meant c.args.world.now)).1 a.reply;
    })
    c.answer_taken.ensures.leaves
