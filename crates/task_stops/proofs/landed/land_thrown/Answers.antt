use Rattle.std.proofs.Common.{sym, subst}
use Rattle.std.proofs.lemmas.Result.{IfOk-weaker}
use Rattle.std.specs.Prelude.{IsSome}
use Rattle.std.specs.Arc.{arc_value}
use Rattle.tree_model.specs.EventViews.{place_view}
use Rattle.tree_nodes.specs.Bodies.{IsWhole, body_view}
use Rattle.tree_nodes.specs.Rows.{cell_at, scope_number}
use Rattle.tree_nodes.specs.TreeTables.{NodesView}
use Rattle.public_tree.specs.PublicPruning.{LandsAs}
use Rattle.branch_reading.specs.Readings.{reading}
use Rattle.task_region.specs.PlacesUp.{items_at_place}
use Rattle.branch_shapes.specs.RestBodies.{items_behind}
use Rattle.tree_core.specs.Histories.{state_of}
use Rattle.task_stops.specs.FoundLandings.{HasReadableCatches, LandsBall}
use Rattle.task_stops.specs.Landings.{innermost_catch, landing}
use Rattle.task_stops.proofs.CopiedBallLemmas.{landing_whole}
use Rattle.task_stops.proofs.FallLemmas.{FallLaws, lands_as}
use Rattle.task_stops.proofs.landed.land_thrown.Goals as goal

pub land_ball-requires-clause-there : goal.land_ball-requires-clause-there
land_ball-requires-clause-there g c =
    let v = c.args.tree.now in
    let a = place_view c.args.at in
    subst (λ (n : NodesView). IsSome (cell_at n.rows a)) (sym c.nodes.ensures)
    (c.outs_can_land_balls.ensures v.history.job v.nodes c.args.worker a (state_of v.history) c.keeps_promises.ensures.nodes.placed c.stays_legal.ensures c.requires.out).there

pub land_ball-requires-clause-readable : goal.land_ball-requires-clause-readable
land_ball-requires-clause-readable g c =
    let v = c.args.tree.now in
    let a = place_view c.args.at in
    subst (λ (n : NodesView). HasReadableCatches n.rows a) (sym c.nodes.ensures)
    (c.outs_can_land_balls.ensures v.history.job v.nodes c.args.worker a (state_of v.history) c.keeps_promises.ensures.nodes.placed c.stays_legal.ensures c.requires.out).readable

pub returns-clause-whole : goal.returns-clause-whole
returns-clause-whole g c =
    let rows = c.nodes.result.now.rows in
    let a = place_view c.args.at in
    let ball = c.args.ball.now in
    IfOk-weaker c.land_ball.result (LandsBall rows a ball) (λ l. IsWhole (body_view (arc_value l.body)))
    (λ l h. landing_whole rows h.places (landing rows ball (innermost_catch (items_behind (items_at_place rows a))) h.places) ball (scope_number l.scope)
    (body_view (arc_value l.body)) h.lands) c.land_ball.ensures

pub returns-clause-lands : goal.returns-clause-lands
returns-clause-lands g c =
    let v = c.args.tree.now in
    let a = place_view c.args.at in
    let laws : FallLaws = record {
      numbered = c.numbered_trees_are_settled.ensures;
      scoped = c.floor_items_stay.ensures.scoped;
      places = c.places_are_levels.ensures;
      copies = c.copies_are_alike.ensures;
      read = c.landings_read.ensures;
    } in
    let t = state_of v.history in
    let ball = c.args.ball.now in
    IfOk-weaker c.land_ball.result (LandsBall c.nodes.result.now.rows a ball)
    (λ l. LandsAs v.nodes.rows (scope_number l.scope) (body_view (arc_value l.body)) c.args.worker a (reading v.history.job) t)
    (λ l h. lands_as laws v.history.job v.nodes t c.args.worker a c.keeps_promises.ensures.nodes.placed c.stays_legal.ensures ball c.requires.throws l
    (subst (λ (n : NodesView). LandsBall n.rows a ball l) c.nodes.ensures h)) c.land_ball.ensures
