use Rattle.std.proofs.Common.{inl, subst}
use Rattle.std.proofs.lemmas.Result.{on_ok_weaker}
use Rattle.task_stops.specs.StopCauses.{StopsThereFor}
use Rattle.task_region.specs.TaskStops.{IsNextFor, LeavesNext}
use Rattle.task_region.specs.declared.running.TaskStop.{TaskStop}
use Rattle.task_region.specs.declared.running.TaskStop.TheVariants.{Cut, Removal, Answer, Ball}
use Rattle.std.specs.Arc.{arc_value}
use Rattle.tree_core.specs.Histories.{state_of}
use Rattle.tree_model.specs.EventViews.{place_view}
use Rattle.scheduler.proofs.BackLemmas.{closes, collects}
use Rattle.scheduler.proofs.FirstLemmas.{answer_there, gate_there, removal_there, stops_at_once, stops_in_front}
use Rattle.scheduler.proofs.RunLemmas.{gives_back, run_alone}
use Rattle.scheduler.proofs.first.serve_gate.Goals as goal

pub cut_or_wait-requires-clause-gate : goal.cut_or_wait-requires-clause-gate
cut_or_wait-requires-clause-gate g c =
    gate_there (arc_value c.args.run.now.text) c.args.tree.now c.args.worker (place_view c.args.at) c.args.stopped c.requires.stopped c.requires.none c.keeps_promises.ensures.nodes
    c.stays_legal.ensures c.stops_are_gates.ensures.gates (Cut c.in-Cut.height) c.in-Cut.is

pub serve_removal-requires-clause-task : goal.serve_removal-requires-clause-task
serve_removal-requires-clause-task g c =
    removal_there (arc_value c.args.run.now.text) c.args.tree.now c.args.worker (place_view c.args.at) c.args.stopped c.requires.stopped c.requires.none c.keeps_promises.ensures.nodes
    c.stays_legal.ensures c.stops_are_gates.ensures.gates c.in-Removal.clause c.in-Removal.is

pub serve_removal-requires-clause-removal : goal.serve_removal-requires-clause-removal
serve_removal-requires-clause-removal g c =
    let v = c.args.tree.now in
    c.fronts_are_told.ensures.removal v.history.job v.nodes (state_of v.history) c.args.worker (place_view c.args.at) v.history.job.clauses
    c.args.stopped.task c.in-Removal.clause (record { placed = c.keeps_promises.ensures.nodes.placed; legal = c.stays_legal.ensures })
    (stops_in_front (arc_value c.args.run.now.text) c.args.tree.now c.args.worker (place_view c.args.at) c.args.stopped c.requires.stopped c.requires.none c.keeps_promises.ensures.nodes
    c.stays_legal.ensures c.stops_are_gates.ensures.gates (Removal c.in-Removal.clause) c.in-Removal.is)

pub serve_answer-requires-clause-task : goal.serve_answer-requires-clause-task
serve_answer-requires-clause-task g c =
    answer_there (arc_value c.args.run.now.text) c.args.tree.now c.args.worker (place_view c.args.at) c.args.stopped c.requires.stopped c.requires.none c.keeps_promises.ensures.nodes
    c.stays_legal.ensures c.stops_are_gates.ensures.gates c.in-Answer.is

pub serve_answer-requires-clause-stops : goal.serve_answer-requires-clause-stops
serve_answer-requires-clause-stops g c =
    stops_in_front (arc_value c.args.run.now.text) c.args.tree.now c.args.worker (place_view c.args.at) c.args.stopped c.requires.stopped c.requires.none c.keeps_promises.ensures.nodes
    c.stays_legal.ensures c.stops_are_gates.ensures.gates Answer c.in-Answer.is

pub serve_answer-requires-clause-left : goal.serve_answer-requires-clause-left
serve_answer-requires-clause-left g c =
    subst (λ (stop : TaskStop). LeavesNext stop c.args.stopped.task.next) c.in-Answer.is c.requires.stopped.going

pub collect_task-requires-clause-stops : goal.collect_task-requires-clause-stops
collect_task-requires-clause-stops g c =
    let v = c.args.tree.now in
    let s = c.args.stopped in
    subst (StopsThereFor v.nodes (place_view c.args.at) v.history.job.clauses s.taken s.task) c.in-Collect.is c.requires.stopped.stops

pub collect_task-requires-clause-next : goal.collect_task-requires-clause-next
collect_task-requires-clause-next g c =
    subst (λ (stop : TaskStop). IsNextFor stop c.args.stopped.task) c.in-Collect.is c.requires.stopped.next

pub collect_task-requires-clause-alone : goal.collect_task-requires-clause-alone
collect_task-requires-clause-alone g c = inl c.requires.none

pub fall_or_wait-requires-clause-throws : goal.fall_or_wait-requires-clause-throws
fall_or_wait-requires-clause-throws g c =
    c.ball_stops_throw.ensures c.args.tree.now c.args.worker (place_view c.args.at) c.args.stopped.task c.in-Ball.ball c.keeps_promises.ensures.nodes
    c.stays_legal.ensures (stops_at_once (arc_value c.args.run.now.text) c.args.tree.now c.args.worker (place_view c.args.at) c.args.stopped c.requires.stopped c.requires.none c.keeps_promises.ensures.nodes
    c.stays_legal.ensures c.stops_are_gates.ensures.gates (Ball c.in-Ball.ball) c.in-Ball.is)

pub close_task-requires-clause-over : goal.close_task-requires-clause-over
close_task-requires-clause-over g c =
    let v = c.args.tree.now in
    let s = c.args.stopped in
    record { task = s.task; stops = subst (StopsThereFor v.nodes (place_view c.args.at) v.history.job.clauses s.taken s.task) c.in-Empty.is c.requires.stopped.stops }

pub returns-in-Cut-clause-run : goal.returns-in-Cut-clause-run
returns-in-Cut-clause-run g c =
    on_ok_weaker c.cut_or_wait.result
    (λ x. run_alone c.args.tree.now.history c.cut_or_wait.new.tree.history (place_view c.args.at) c.args.run.now c.requires.run (x))
    c.cut_or_wait.ensures.back

pub returns-in-Cut-clause-back : goal.returns-in-Cut-clause-back
returns-in-Cut-clause-back g c =
    on_ok_weaker c.cut_or_wait.result
    (λ x. gives_back c.args.tree.now.history c.cut_or_wait.new.tree.history (place_view c.args.at) (x))
    c.cut_or_wait.ensures.back

pub returns-in-Ball-clause-run : goal.returns-in-Ball-clause-run
returns-in-Ball-clause-run g c =
    on_ok_weaker c.fall_or_wait.result
    (λ x. run_alone c.args.tree.now.history c.fall_or_wait.new.tree.history (place_view c.args.at) c.args.run.now c.requires.run (x))
    c.fall_or_wait.ensures.back

pub returns-in-Ball-clause-back : goal.returns-in-Ball-clause-back
returns-in-Ball-clause-back g c =
    on_ok_weaker c.fall_or_wait.result
    (λ x. gives_back c.args.tree.now.history c.fall_or_wait.new.tree.history (place_view c.args.at) (x))
    c.fall_or_wait.ensures.back

pub returns-in-Collect-clause-run : goal.returns-in-Collect-clause-run
returns-in-Collect-clause-run g c =
    on_ok_weaker c.collect_task.result
    (λ x. run_alone c.args.tree.now.history c.collect_task.new.tree.history (place_view c.args.at) c.args.run.now c.requires.run (collects c.args.tree.now.history c.collect_task.new.tree.history c.args.worker (place_view c.args.at) c.requires.going c.args.stopped.taken x))
    c.collect_task.ensures.closes

pub returns-in-Collect-clause-back : goal.returns-in-Collect-clause-back
returns-in-Collect-clause-back g c =
    on_ok_weaker c.collect_task.result
    (λ x. gives_back c.args.tree.now.history c.collect_task.new.tree.history (place_view c.args.at) (collects c.args.tree.now.history c.collect_task.new.tree.history c.args.worker (place_view c.args.at) c.requires.going c.args.stopped.taken x))
    c.collect_task.ensures.closes

pub returns-clause-run : goal.returns-clause-run
returns-clause-run g c =
    on_ok_weaker c.close_task.result
    (λ x. run_alone c.args.tree.now.history c.close_task.new.tree.history (place_view c.args.at) c.args.run.now c.requires.run (closes c.args.tree.now.history c.close_task.new.tree.history c.args.worker (place_view c.args.at) c.requires.going c.args.stopped.taken x))
    c.close_task.ensures.closes

pub returns-clause-back : goal.returns-clause-back
returns-clause-back g c =
    on_ok_weaker c.close_task.result
    (λ x. gives_back c.args.tree.now.history c.close_task.new.tree.history (place_view c.args.at) (closes c.args.tree.now.history c.close_task.new.tree.history c.args.worker (place_view c.args.at) c.requires.going c.args.stopped.taken x))
    c.close_task.ensures.closes
