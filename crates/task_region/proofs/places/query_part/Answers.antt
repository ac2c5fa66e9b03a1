use Rattle.std.proofs.Common.{◌+◌, sym, ap, ◌∙◌}
use Rattle.std.specs.Arc.{arc_value}
use Rattle.tree_nodes.specs.Bodies.{Body, body_view, kind_view}
use Rattle.tree_nodes.specs.Rows.{row_of_node}
use Rattle.tree_nodes.specs.declared.body.NodeBody.{NodeBody}
use Rattle.task_region.specs.PlacesUp.{is_query_body}
use Rattle.task_region.proofs.BindingLemmas.{stored}
use Rattle.task_region.proofs.PlaceUpLemmas.{node_at, part_after}
use Rattle.task_region.proofs.places.query_part.Goals as goal

pub body-requires : goal.body-requires
body-requires c =
    node_at c.args.nodes.now.rows c.args.places.now c.requires c.loop-place.place-index (record { node = 0; alternative = 0 }) c.loop-place-test.true

pub loop-place-preserved : goal.loop-place-preserved
loop-place-preserved c = record {
  count = ap (λ n. n + 1) c.loop-place.invariant.count;
  part =
      let rows = c.args.nodes.now.rows in
      let body = body_view (arc_value c.body.result.now) in
      let is = stored (row_of_node rows _) body c.body.ensures.body in
      part_after rows c.args.places.now c.loop-place.place-index (record { node = 0; alternative = 0 }) c.loop-place-test.true
      c.loop-place.count c.loop-place.invariant.part
      (ap (λ (b : Body). is_query_body b.kind) is ∙ (ap (λ (b : NodeBody). is_query_body (kind_view b.kind)) (sym c.deref.ensures)
      ∙ (sym c.is_query.ensures ∙ c.if-is_query.false)));
}
