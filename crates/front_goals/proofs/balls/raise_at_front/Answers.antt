use Rattle.std.proofs.Common.{sym, subst}
use Rattle.std.specs.Prelude.{IsSome}
use Rattle.std.specs.Arc.{arc_value}
use Rattle.tree_model.specs.EventViews.{place_view}
use Rattle.tree_nodes.specs.Bodies.{body_view}
use Rattle.tree_nodes.specs.Rows.{cell_at, scope_number}
use Rattle.tree_nodes.specs.TreeTables.{NodesView}
use Rattle.task_region.specs.PlacesUp.{items_at_place}
use Rattle.branch_shapes.specs.RestBodies.{items_behind}
use Rattle.tree_core.specs.Histories.{state_of}
use Rattle.task_stops.specs.FoundLandings.{HasReadableCatches, LandsBall}
use Rattle.task_stops.specs.Landings.{innermost_catch, landing}
use Rattle.front_goals.proofs.RaisedLemmas.{RaiseLaws, falls_as}
use Rattle.task_stops.proofs.CopiedBallLemmas.{landing_whole}
use Rattle.front_goals.proofs.balls.raise_at_front.Goals as goal

pub land_ball-requires-clause-there : goal.land_ball-requires-clause-there
land_ball-requires-clause-there g c =
    let v = c.args.tree.now in
    let a = place_view c.args.at in
    subst (λ (n : NodesView). IsSome (cell_at n.rows a)) (sym c.nodes.ensures)
    (c.outs_can_land_balls.ensures v.history.job v.nodes c.args.worker a (state_of v.history) c.keeps_promises.ensures.nodes.placed c.stays_legal.ensures c.requires.out).there

pub land_ball-requires-clause-readable : goal.land_ball-requires-clause-readable
land_ball-requires-clause-readable g c =
    let v = c.args.tree.now in
    let a = place_view c.args.at in
    subst (λ (n : NodesView). HasReadableCatches n.rows a) (sym c.nodes.ensures)
    (c.outs_can_land_balls.ensures v.history.job v.nodes c.args.worker a (state_of v.history) c.keeps_promises.ensures.nodes.placed c.stays_legal.ensures c.requires.out).readable

pub fall_at_front-requires-clause-whole : goal.fall_at_front-requires-clause-whole
fall_at_front-requires-clause-whole g c =
    let rows = c.nodes.result.now.rows in
    let l = c.in_ok-landing.landing in
    let h = c.in_ok-landing.ensures in
    landing_whole rows h.places (landing rows c.args.ball.now (innermost_catch (items_behind (items_at_place rows (place_view c.args.at)))) h.places) c.args.ball.now (scope_number l.scope)
    (body_view (arc_value l.body)) h.lands

pub fall_at_front-requires-clause-falls : goal.fall_at_front-requires-clause-falls
fall_at_front-requires-clause-falls g c =
    let v = c.args.tree.now in
    let a = place_view c.args.at in
    let laws : RaiseLaws = record {
      numbered = c.numbered_trees_are_settled.ensures;
      scoped = c.floor_items_stay.ensures.scoped;
      places = c.places_are_levels.ensures;
      read = c.landings_read.ensures;
    } in
    let l = c.in_ok-landing.landing in
    falls_as laws v.history.job v.nodes (state_of v.history) c.args.worker a c.keeps_promises.ensures.nodes.placed c.stays_legal.ensures c.args.ball.now c.requires.raises l
    (subst (λ (n : NodesView). LandsBall n.rows a c.args.ball.now l) c.nodes.ensures c.in_ok-landing.ensures)
