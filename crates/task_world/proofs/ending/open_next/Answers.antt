use Rattle.std.proofs.Common.{ap, ◌∙◌, length, subst}
use Rattle.std.specs.Arc.{arc_value}
use Rattle.effect_gate.specs.Effects.{world_meant}
use Rattle.tree_model.specs.EventViews.{place_view}
use Rattle.tree_nodes.specs.Bodies.{body_view}
use Rattle.tree_nodes.specs.TreeTables.{NodesView}
use Rattle.tree_core.specs.Openings.{IsQueryAt}
use Rattle.task_world.proofs.EndLemmas.{opens_as, opened_left, ended_world}
use Rattle.task_world.proofs.ending.open_next.Goals as goal

pub open_query-requires-clause-opens : goal.open_query-requires-clause-opens
open_query-requires-clause-opens g c =
    let v = c.args.tree.now in
    let k = c.keeps_promises.ensures in
    let given = c.in_ok-given.given in
    let drawn = c.drawn.ensures ∙ ap (λ (n : NodesView). length n.rows) c.nodes.ensures in
    opens_as v.history v.nodes c.args.ball c.args.worker (place_view c.args.at) c.requires.ends k.nodes.placed k.nodes.next k.promises.legal k.countable
    c.next_query_is_told.ensures c.args.next.now given (body_view (arc_value c.in_ok-body.body)) c.requires.next
    (subst (λ n. IsQueryAt n c.args.next.now given) drawn c.in_ok-given.ensures) c.in_ok-body.ensures.opens

pub returns-clause-left : goal.returns-clause-left
returns-clause-left g c =
    let v = c.args.tree.now in
    opened_left v.history v.nodes c.args.ball c.args.worker (place_view c.args.at) c.requires.ends c.requires.may c.requires.out
    c.in_ok-answering.answering c.open_query.new.self.history c.in_ok-answering.ensures.answer c.in_ok-answering.ensures.noted

pub returns-clause-world : goal.returns-clause-world
returns-clause-world g c =
    let v = c.args.tree.now in
    ended_world v.history v.nodes c.args.ball c.args.worker (place_view c.args.at) c.requires.ends c.requires.may c.requires.out
    (world_meant c.args.world.now) (world_meant c.write_end.new.world) c.requires.world c.in_ok-write_end.ensures.written
