use Rattle.std.specs.Arc.{arc_value}
use Rattle.task_region.specs.declared.running.TaskStop.TheVariants.{World}
use Rattle.tree_model.specs.EventViews.{place_view}
use Rattle.scheduler.proofs.FirstLemmas.{goal_there, stops_in_front}
use Rattle.scheduler.proofs.first.serve_first.Goals as goal

pub serve_world-requires-clause-task : goal.serve_world-requires-clause-task
serve_world-requires-clause-task g c =
    goal_there (arc_value c.args.run.now.text) c.args.tree.now c.args.worker (place_view c.args.at) c.args.stopped c.requires.stopped c.requires.none c.keeps_promises.ensures.nodes
    c.stays_legal.ensures c.stops_are_gates.ensures.gates c.in-World.item c.in-World.place c.in-World.is

pub serve_world-requires-clause-stops : goal.serve_world-requires-clause-stops
serve_world-requires-clause-stops g c =
    stops_in_front (arc_value c.args.run.now.text) c.args.tree.now c.args.worker (place_view c.args.at) c.args.stopped c.requires.stopped c.requires.none c.keeps_promises.ensures.nodes
    c.stays_legal.ensures c.stops_are_gates.ensures.gates (World c.in-World.item c.in-World.place) c.in-World.is
