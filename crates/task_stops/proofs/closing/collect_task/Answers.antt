use Rattle.tree_model.specs.EventViews.{place_view}
use Rattle.task_stops.proofs.closing.collect_task.Goals as goal

pub close_out-requires-clause-ends : goal.close_out-requires-clause-ends
close_out-requires-clause-ends g c =
    let v = c.args.tree.now in
    c.results_are_given.ensures v c.args.worker c.args.inferences (place_view c.args.at) c.args.task c.args.number c.in_ok-record.record
    c.keeps_promises.ensures.nodes c.stays_legal.ensures c.requires.stops c.requires.next c.requires.alone c.in_ok-record.ensures
