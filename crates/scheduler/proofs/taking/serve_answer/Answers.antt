use Rattle.std.proofs.lemmas.Result.{on_ok_weaker}
use Rattle.tree_model.specs.EventViews.{place_view}
use Rattle.scheduler.proofs.FrontLemmas.{come_back, come_run, has_come, step_open}
use Rattle.scheduler.proofs.taking.serve_answer.Goals as goal

pub end_step-requires : goal.end_step-requires
end_step-requires g c =
    let v = c.args.tree.now in
    record {
      step = step_open v c.args.tree.now c.args.worker (place_view c.args.at) (record { out = c.requires.out; going = c.requires.going })
          c.requires.task.gate c.in_ok-step.step c.in_ok-step.ensures.comes;
    }

pub returns-clause-run : goal.returns-clause-run
returns-clause-run g c =
    let v = c.args.tree.now in
    let a = place_view c.args.at in
    let step = c.in_ok-step.step in
    on_ok_weaker c.end_step.result
    (λ ends. come_run v.history c.end_step.new.tree.history c.args.worker a c.requires.task c.stays_legal.ensures c.ends_open_queries.ensures c.args.run.now
    c.answer_step.new.world step c.requires.run
    (has_come v c.args.tree.now c.args.worker a (record { out = c.requires.out; going = c.requires.going }) c.requires.task.gate
    c.end_step.new.tree step c.in_ok-step.ensures.comes ends)
    c.in_ok-step.ensures.statics c.in_ok-step.ensures.world)
    c.end_step.ensures.ends

pub returns-clause-back : goal.returns-clause-back
returns-clause-back g c =
    let v = c.args.tree.now in
    let a = place_view c.args.at in
    let step = c.in_ok-step.step in
    on_ok_weaker c.end_step.result
    (λ ends. come_back v.history c.end_step.new.tree.history c.args.worker a step
    (has_come v c.args.tree.now c.args.worker a (record { out = c.requires.out; going = c.requires.going }) c.requires.task.gate
    c.end_step.new.tree step c.in_ok-step.ensures.comes ends))
    c.end_step.ensures.ends
