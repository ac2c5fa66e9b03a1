use Rattle.std.proofs.Common.{sym, subst}
use Rattle.branch_reading.specs.Readings.{reading}
use Rattle.branch_shapes.proofs.OutLemmas.{spot_out}
use Rattle.effect_gate.specs.Effects.{world_meant}
use Rattle.public_tree.specs.Opening.{opening_body}
use Rattle.task_stops.specs.WokenBodies.{IsGivenFor}
use Rattle.task_stops.proofs.CloseLemmas.{cell_out}
use Rattle.task_world.specs.FrontItems.{terms_named}
use Rattle.tree_closing.specs.Closings.{HasSleeper}
use Rattle.tree_core.specs.Histories.{state_of}
use Rattle.tree_model.specs.EventViews.{place_view}
use Rattle.tree_model.specs.Legality.{taken_at}
use Rattle.tree_nodes.specs.TreeTables.{NodesView}
use Rattle.answered_tasks.proofs.CloseLemmas.{answers_as}
use Rattle.answered_tasks.proofs.StateLemmas.{answered_queries, answered_world, taken_noted}
use Rattle.answered_tasks.proofs.answering.answer_at_once.Goals as goal

pub rest_of_run-requires : goal.rest_of_run-requires
rest_of_run-requires g c =
    let v = c.args.tree.now in
    cell_out v.history.job v.nodes (state_of v.history) c.args.worker (place_view c.args.at) c.keeps_promises.ensures.nodes.placed c.stays_legal.ensures c.requires.out

pub woken_body-requires : goal.woken_body-requires
woken_body-requires g c =
    let closing = c.in_ok-closing.closing in
    record {
      sleeper = subst (λ (n : NodesView). HasSleeper closing.beside n.rows (place_view closing.end)) (sym c.nodes.ensures) c.in_ok-closing.ensures.sleeper;
    }

pub answer_at_once-requires-clause-body : goal.answer_at_once-requires-clause-body
answer_at_once-requires-clause-body g c = c.in_ok-woken.ensures.given

pub answer_at_once-requires-clause-answers : goal.answer_at_once-requires-clause-answers
answer_at_once-requires-clause-answers g c =
    let v = c.args.tree.now in
    let closing = c.in_ok-closing.closing in
    let body = opening_body c.in_ok-woken.woken in
    answers_as v c.args.worker (place_view c.args.at) c.args.run.0 c.args.run.1 (terms_named c.args.store.now c.args.names.now) closing body
    c.keeps_promises.ensures.nodes c.stays_legal.ensures c.requires.out c.requires.answers c.in_ok-closing.ensures.rests c.in_ok-closing.ensures.sleeper
    c.waking_closings_are_no_catch.ensures (subst (λ (n : NodesView). IsGivenFor n closing body) c.nodes.ensures c.in_ok-woken.ensures)

pub returns-clause-answered : goal.returns-clause-answered
returns-clause-answered g c =
    let h = c.args.tree.now.history in
    let new = c.answer_at_once.new.self.history in
    let a = place_view c.args.at in
    let s = spot_out (taken_at c.args.worker a (state_of h)) c.requires.out in
    let e = c.in_ok-_taken.ensures in
    let noted = taken_noted h new c.args.worker a c.args.run.0 c.args.run.1 c.in_ok-_taken._taken c.requires.may e.answer e.noted in
    record {
      may = c.requires.may;
      noted = noted;
      queries =
          answered_queries c.args.tree.now.nodes (reading h.job) h new c.keeps_promises.ensures.nodes.placed c.args.worker a c.args.run.0 c.args.run.1 c.stays_legal.ensures c.requires.may c.requires.some
          (terms_named c.args.store.now c.args.names.now) s.0 s.1 (c.requires.answers s.0 s.1) c.answers_close_at_once.ensures noted;
    }

pub returns-clause-world : goal.returns-clause-world
returns-clause-world g c =
    let h = c.args.tree.now.history in
    let new = c.answer_at_once.new.self.history in
    let a = place_view c.args.at in
    let s = spot_out (taken_at c.args.worker a (state_of h)) c.requires.out in
    let e = c.in_ok-_taken.ensures in
    let noted = taken_noted h new c.args.worker a c.args.run.0 c.args.run.1 c.in_ok-_taken._taken c.requires.may e.answer e.noted in
    answered_world c.args.tree.now.nodes (reading h.job) h new c.keeps_promises.ensures.nodes.placed c.args.worker a c.args.run.0 c.args.run.1 c.stays_legal.ensures c.requires.may c.requires.some
    (terms_named c.args.store.now c.args.names.now) s.0 s.1 (c.requires.answers s.0 s.1) c.answers_close_at_once.ensures noted
    (world_meant c.args.world.now) (world_meant c.write_answer.new.world) c.requires.world c.in_ok-write_answer.ensures.written
