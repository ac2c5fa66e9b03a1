use Rattle.std.proofs.Common.{◌≡◌, length, subst, arith}
use Rattle.std.proofs.lemmas.Result.{on_ok_weaker}
use Rattle.tree_core.specs.Histories.{state_of}
use Rattle.tree_model.specs.EventViews.{place_view}
use Rattle.scheduler.specs.QueriesLeft.{CountsOpened}
use Rattle.scheduler.proofs.EndLemmas.{end_run, gate_is}
use Rattle.scheduler.proofs.FrontLemmas.{come_back, has_come, step_open}
use Rattle.scheduler.proofs.ending.serve_end.Goals as goal

pub end_step-requires : goal.end_step-requires
end_step-requires g c =
    let v = c.args.tree.now in
    let a = place_view c.args.at in
    record {
      step = step_open v c.end_query.new.tree c.args.worker a (record { out = c.requires.out; going = c.requires.going })
          (gate_is (state_of v.history) c.args.worker a c.args.ball c.requires.ends) c.in_ok-step.step c.in_ok-step.ensures.comes;
    }

pub returns-clause-run : goal.returns-clause-run
returns-clause-run g c =
    let v = c.args.tree.now in
    let a = place_view c.args.at in
    let step = c.in_ok-step.step in
    on_ok_weaker c.end_step.result
    (λ ends. end_run v.history c.end_step.new.tree.history c.args.worker a c.args.ball c.requires.ends c.requires.out c.args.run.now c.end_query.new.world
    c.opened_after-run.result step c.requires.run
    (has_come v c.end_query.new.tree c.args.worker a (record { out = c.requires.out; going = c.requires.going })
    (gate_is (state_of v.history) c.args.worker a c.args.ball c.requires.ends) c.end_step.new.tree step c.in_ok-step.ensures.comes ends)
    c.in_ok-step.ensures.statics c.in_ok-step.ensures.world
    (subst (λ n. CountsOpened n c.args.run.now.asked step c.opened_after-run.result)
    (let e : c.len-count.result ≡ length c.args.run.now.queries.items = omega (arith, c.len-count.ensures, c.args.run.now.queries.ok.0) in e)
    c.opened_after-run.ensures))
    c.end_step.ensures.ends

pub returns-clause-back : goal.returns-clause-back
returns-clause-back g c =
    let v = c.args.tree.now in
    let a = place_view c.args.at in
    let step = c.in_ok-step.step in
    on_ok_weaker c.end_step.result
    (λ ends. come_back v.history c.end_step.new.tree.history c.args.worker a step
    (has_come v c.end_query.new.tree c.args.worker a (record { out = c.requires.out; going = c.requires.going })
    (gate_is (state_of v.history) c.args.worker a c.args.ball c.requires.ends) c.end_step.new.tree step c.in_ok-step.ensures.comes ends))
    c.end_step.ensures.ends
