use Rattle.task_region.proofs.PlaceUpLemmas.{node_at}
use Rattle.task_region.proofs.places.has_query.Goals as goal

pub body-requires : goal.body-requires
body-requires c =
    node_at c.args.nodes.now.rows c.args.places.now c.requires c.loop-place.place-index (record { node = 0; alternative = 0 }) c.loop-place-test.true
