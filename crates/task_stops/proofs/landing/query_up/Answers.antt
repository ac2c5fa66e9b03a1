use Rattle.std.proofs.Common.{sym, ap, ◌∙◌}
use Rattle.tree_nodes.specs.Bodies.{Body, kind_view}
use Rattle.task_region.specs.PlacesUp.{is_query_body}
use Rattle.task_stops.proofs.AskedLemmas.{stored_is}
use Rattle.task_stops.proofs.FoundLemmas.{no_query_up, query_at, query_past, suffix_up}
use Rattle.task_stops.proofs.landing.query_up.Goals as goal

pub body-requires : goal.body-requires
body-requires c =
    (suffix_up c.args.nodes.now.rows c.args.places.now c.requires.0 c.loop-place.place-index (record { node = 0; alternative = 0 }) c.requires.1 c.loop-place-test.true).there

pub returns-then-is_query : goal.returns-then-is_query
returns-then-is_query c =
    query_at c.args.nodes.now.rows c.args.places.now c.loop-place.place-index c.loop-place.invariant _ c.loop-place-test.true
    (ap (λ (b : Body). is_query_body b.kind) (stored_is _ _ c.body.ensures.body) ∙ (ap (λ b. is_query_body (kind_view b.kind)) (sym c.deref.ensures) ∙ (sym c.is_query.ensures ∙ c.if-is_query.true)))

pub loop-place-preserved : goal.loop-place-preserved
loop-place-preserved c =
    query_past c.args.nodes.now.rows c.args.places.now c.loop-place.place-index c.loop-place.invariant _ c.loop-place-test.true
    (ap (λ (b : Body). is_query_body b.kind) (stored_is _ _ c.body.ensures.body) ∙ (ap (λ b. is_query_body (kind_view b.kind)) (sym c.deref.ensures) ∙ (sym c.is_query.ensures ∙ c.if-is_query.false)))

pub returns : goal.returns
returns c = no_query_up c.args.nodes.now.rows c.args.places.now c.loop-place.place-index c.loop-place.invariant c.loop-place-test.false
