use Rattle.std.specs.Arc.{arc_value}
use Rattle.tree_model.specs.EventViews.{place_view}
use Rattle.scheduler.proofs.FrontLemmas.{come_back, come_run, has_come, step_open}
use Rattle.scheduler.proofs.KeptLemmas.{kept_on}
use Rattle.scheduler.proofs.world.serve_world.Goals as goal

pub end_step-requires : goal.end_step-requires
end_step-requires g c =
    let v = c.args.tree.now in
    record {
      step = step_open v c.take_world_goal.new.tree c.args.worker (place_view c.args.at) (record { out = c.requires.out; going = c.requires.going })
          c.requires.task.gate c.in_ok-step.step c.in_ok-step.ensures.comes;
    }

pub returns-clause-run : goal.returns-clause-run
returns-clause-run g c =
    let v = c.args.tree.now in
    let a = place_view c.args.at in
    let step = c.in_ok-step.step in
    come_run v.history c.end_step.new.tree.history c.args.worker a c.requires.task c.stays_legal.ensures c.ends_open_queries.ensures c.args.run.now
    c.take_world_goal.new.world step c.requires.run
    (has_come v c.take_world_goal.new.tree c.args.worker a (record { out = c.requires.out; going = c.requires.going }) c.requires.task.gate
    c.end_step.new.tree step c.in_ok-step.ensures.comes c.in_ok-end_step.ensures.ends)
    c.take_world_goal.ensures.statics c.in_ok-step.ensures.world

pub returns-clause-back : goal.returns-clause-back
returns-clause-back g c =
    let v = c.args.tree.now in
    let a = place_view c.args.at in
    let step = c.in_ok-step.step in
    come_back v.history c.end_step.new.tree.history c.args.worker a step
    (has_come v c.take_world_goal.new.tree c.args.worker a (record { out = c.requires.out; going = c.requires.going }) c.requires.task.gate
    c.end_step.new.tree step c.in_ok-step.ensures.comes c.in_ok-end_step.ensures.ends)

pub returns-clause-kept : goal.returns-clause-kept
returns-clause-kept g c =
    kept_on c.kept_regions_stay.ensures.stay c.take_world_goal.new.tree.nodes.rows c.end_step.new.tree.nodes.rows (arc_value c.args.run.now.text) c.in_ok-step.kept
    c.end_step.ensures.made c.in_ok-step.ensures.kept
