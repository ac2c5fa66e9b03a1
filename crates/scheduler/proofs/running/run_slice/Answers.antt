use Rattle.std.proofs.Common.{arith}
use Rattle.std.specs.Arc.{arc_value}
use Rattle.tree_model.specs.EventViews.{place_view}
use Rattle.scheduler.proofs.TaskLemmas.{slice_under}
use Rattle.scheduler.proofs.running.run_slice.Goals as goal

pub returns-clause-under : goal.returns-clause-under
returns-clause-under g c =
    let s = c.args.stopped in
    let most = c.min.result in
    let left = c.requires.left in
    let least = c.min.ensures in
    slice_under (arc_value c.args.run.now.text) c.args.tree.now (place_view c.args.at) c.args.run.now.kinds c.args.limit s c.requires.under c.requires.at_limit most (grind (arith, least, left)) (grind (arith, least, left))
    c.run.new.self c.in_ok-ran.ran c.in_ok-ran.ensures c.tasks_stop_for_causes.ensures.on c.tasks_stop_for_causes.ensures.stops c.tasks_stop_on_runs.ensures.stay c.kept_regions_stay.ensures.run
