use Rattle.tree_model.specs.EventViews.{place_view}
use Rattle.task_stops.proofs.closing.close_task.Goals as goal

pub close_out-requires-clause-ends : goal.close_out-requires-clause-ends
close_out-requires-clause-ends g c =
    let v = c.args.tree.now in
    c.ended_runs_are_empty.ensures v c.args.worker c.args.inferences (place_view c.args.at) c.keeps_promises.ensures.nodes c.stays_legal.ensures c.requires.over
