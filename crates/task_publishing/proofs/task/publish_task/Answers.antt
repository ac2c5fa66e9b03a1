use Rattle.std.proofs.Common.{ℕ, List, sym, subst}
use Rattle.std.specs.Prelude.{IsSome}
use Rattle.std.specs.Global.{Global}
use Rattle.std.specs.declared.sync.Arc.{Arc}
use Rattle.run_model.specs.Programs.Jobs.{Job}
use Rattle.tree_model.specs.EventViews.{place_view}
use Rattle.tree_model.specs.Levels.{Place}
use Rattle.task_region.specs.TaskViews.{TaskView}
use Rattle.tree_nodes.specs.Rows.{cell_at}
use Rattle.tree_nodes.specs.TreeTables.{NodesView}
use Rattle.tree_nodes.specs.declared.body.NodeBody.{NodeBody}
use Rattle.task_region.specs.PlacesUp.{AreNumbersUp}
use Rattle.tree_core.specs.Histories.{History, state_of}
use Rattle.public_tree.specs.Publishing.{bodies_view, AreWhole, RunReadsAs}
use Rattle.branch_reading.specs.Readings.{reading}
use Rattle.task_publishing.specs.OwnBodies.{MeanTask}
use Rattle.task_publishing.specs.TaskRuns.{StopsThere}
use Rattle.task_publishing.proofs.JobLemmas.{job_of_state}
use Rattle.task_publishing.proofs.TaskRunLemmas.{run_reads, bodies_whole, has_own, is_there}
use Rattle.task_publishing.proofs.KeptLemmas.{number_drawn, kept_over}
use Rattle.task_publishing.proofs.task.publish_task.Goals as goal

-- in the tree after a history
stops_here : (h : History) (nodes : NodesView) (a : Place) (k : ℕ) (t : TaskView) → StopsThere nodes a h.job.clauses k t
    → StopsThere nodes a (state_of h).job.clauses k t
stops_here h nodes a k t = subst (λ (j : Job). StopsThere nodes a j.clauses k t) (sym (job_of_state h))

pub bodies_of_task-requires-clause-there : goal.bodies_of_task-requires-clause-there
bodies_of_task-requires-clause-there g c =
    let v = c.args.tree.now in
    let a = place_view c.args.at in
    subst (λ (n : NodesView). IsSome (cell_at n.rows a)) (sym c.nodes.ensures)
    (is_there v.history.job v.nodes (state_of v.history) c.args.worker a c.args.inferences c.requires.some c.args.task
    c.keeps_promises.ensures.nodes.placed (stops_here v.history v.nodes a c.args.inferences c.args.task c.requires.stops) c.requires.going c.regions_run_privately.ensures.rest c.tops_are_own.ensures.top
    c.requires.out)

pub bodies_of_task-requires-clause-own : goal.bodies_of_task-requires-clause-own
bodies_of_task-requires-clause-own g c =
    let v = c.args.tree.now in
    let a = place_view c.args.at in
    has_own v.history.job v.nodes (state_of v.history) c.args.worker a c.args.inferences c.requires.some c.args.task
    c.keeps_promises.ensures.nodes.placed (stops_here v.history v.nodes a c.args.inferences c.args.task c.requires.stops) c.requires.going c.regions_run_privately.ensures.rest c.tops_are_own.ensures.top
    c.requires.out

pub bodies_of_task-requires-clause-numbers : goal.bodies_of_task-requires-clause-numbers
bodies_of_task-requires-clause-numbers g c =
    let a = place_view c.args.at in
    let way = c.requires.way in
    subst (λ (n : NodesView). AreNumbersUp n.rows a c.deref.result.now) (sym c.nodes.ensures)
    (subst (AreNumbersUp c.args.tree.now.nodes.rows a) (sym c.deref.ensures.value) (record { places = way.places; up = way.up; are = way.numbers_are }))

pub returns-clause-kept : goal.returns-clause-kept
returns-clause-kept g c =
    let v = c.args.tree.now in
    let a = place_view c.args.at in
    let left = c.in_ok-bodies.ensures in
    kept_over c.kept_regions_stay.ensures.stay c.kept_regions_stay.ensures.leave v.nodes.rows c.publish.new.self.nodes.rows a c.args.numbers.items c.args.task c.in_ok-bodies.region c.in_ok-kept.kept
    (number_drawn v.nodes.rows a.node a.index (is_there v.history.job v.nodes (state_of v.history) c.args.worker a c.args.inferences c.requires.some c.args.task
    c.keeps_promises.ensures.nodes.placed (stops_here v.history v.nodes a c.args.inferences c.args.task c.requires.stops) c.requires.going c.regions_run_privately.ensures.rest c.tops_are_own.ensures.top
    c.requires.out)) c.requires.way left.floor left.text c.publish.ensures.made c.in_ok-kept.ensures

pub publish-requires-clause-whole : goal.publish-requires-clause-whole
publish-requires-clause-whole g c =
    let v = c.args.tree.now in
    let a = place_view c.args.at in
    let bodies = bodies_view c.in_ok-bodies.bodies.items in
    let mean = subst (λ (n : NodesView). MeanTask n a c.args.task bodies) c.nodes.ensures c.in_ok-bodies.ensures.mean in
    subst (λ (xs : List (Arc NodeBody Global)). AreWhole (bodies_view xs)) (sym c.deref-2.ensures.value)
    (bodies_whole v.history.job v.nodes (state_of v.history) c.args.worker a c.args.inferences c.requires.some c.args.task
    c.keeps_promises.ensures.nodes.placed (stops_here v.history v.nodes a c.args.inferences c.args.task c.requires.stops) c.requires.going c.regions_run_privately.ensures.rest c.tops_are_own.ensures.top bodies mean
    c.requires.start c.keeps_promises.ensures.nodes.next c.stays_legal.ensures c.numbered_trees_are_settled.ensures c.floor_items_stay.ensures.scoped
    c.settled_segments_bind.ensures.bind c.extensions_are_unified.ensures.free c.meant_runs_read.ensures.fit c.requires.out)

pub publish-requires-clause-reads : goal.publish-requires-clause-reads
publish-requires-clause-reads g c =
    let v = c.args.tree.now in
    let a = place_view c.args.at in
    let bodies = bodies_view c.in_ok-bodies.bodies.items in
    let mean = subst (λ (n : NodesView). MeanTask n a c.args.task bodies) c.nodes.ensures c.in_ok-bodies.ensures.mean in
    subst (λ (xs : List (Arc NodeBody Global)). RunReadsAs v.nodes.rows (bodies_view xs) c.args.worker a c.args.inferences (reading v.history.job)
    (state_of v.history)) (sym c.deref-2.ensures.value)
    (run_reads v.history.job v.nodes (state_of v.history) c.args.worker a c.args.inferences c.requires.some c.args.task
    c.keeps_promises.ensures.nodes.placed (stops_here v.history v.nodes a c.args.inferences c.args.task c.requires.stops) c.requires.going c.regions_run_privately.ensures.rest c.tops_are_own.ensures.top bodies mean
    c.requires.start c.keeps_promises.ensures.nodes.next c.stays_legal.ensures c.numbered_trees_are_settled.ensures c.floor_items_stay.ensures.scoped
    c.settled_segments_bind.ensures.bind c.extensions_are_unified.ensures.free c.meant_runs_read.ensures.read)
