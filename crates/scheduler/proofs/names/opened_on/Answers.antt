use Rattle.std.proofs.Common.{List, None, Some, map, sym, subst}
use Rattle.task_region.specs.PlacesUp.{AreAtNodes}
use Rattle.tree_model.specs.EventViews.{place_view}
use Rattle.tree_model.specs.declared.places.AltRef.{AltRef}
use Rattle.task_region.proofs.PlaceUpLemmas.{all_there}
use Rattle.scheduler.proofs.names.opened_on.Goals as goal

pub count_queries-requires : goal.count_queries-requires
count_queries-requires c =
    let rows = c.args.nodes.now.rows in
    subst (λ (ps : List AltRef). AreAtNodes rows (map place_view ps)) (sym c.deref.ensures.value)
    (all_there rows (map place_view c.in_ok-places.places.items) (Some (place_view c.args.at)) None c.in_ok-places.ensures)
