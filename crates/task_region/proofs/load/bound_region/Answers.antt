use Rattle.std.proofs.Common.{◌≡◌, ◌+◌, [], ◌∷◌, map, Some, None, sym, ap, ◌∙◌, subst, arith}
use Rattle.std.proofs.lemmas.List.{take-map}
use Rattle.cell_store.specs.StoreView.{with_numbers}
use Rattle.region_split.specs.Regions.{RegionView}
use Rattle.tree_model.specs.EventViews.{place_view}
use Rattle.branch_reading.specs.BranchSegments.{bindings_on, next_number}
use Rattle.task_region.specs.MadeInTurn.{CanMake, Makes}
use Rattle.task_region.specs.PlacesUp.{segments_at}
use Rattle.task_region.proofs.BranchLoadLemmas.{all_bound, can_make_all}
use Rattle.task_region.proofs.PlaceUpLemmas.{all_there, nodes_front}
use Rattle.task_region.proofs.load.bound_region.Goals as goal

pub query_part-own-requires : goal.query_part-own-requires
query_part-own-requires c = all_there c.args.nodes.now.rows (map place_view c.args.places.now) (Some (place_view c.args.at)) None c.requires.up

pub bind_way-requires-clause-nodes : goal.bind_way-requires-clause-nodes
bind_way-requires-clause-nodes c =
    nodes_front c.args.nodes.now.rows c.args.places.now c.query_part-own.result
    (all_there c.args.nodes.now.rows (map place_view c.args.places.now) (Some (place_view c.args.at)) None c.requires.up)

pub bind_way-requires-clause-can : goal.bind_way-requires-clause-can
bind_way-requires-clause-can c =
    let rows = c.args.nodes.now.rows in
    let xs = c.args.places.now in
    let own = c.query_part-own.result in
    let fresh = c.in_ok-fresh.ensures.ok ∙ ap (λ (r : RegionView). record r { store = with_numbers c.in_ok-next.next r.store }) c.in_ok-region.ensures in
    let next : c.fresh.new.self.store.now.next ≡ next_number (segments_at rows (place_view c.args.at ∷ []))
    = ap (λ (r : RegionView). r.store.now.next) fresh ∙ (let e : 0 + c.in_ok-next.next ≡ c.in_ok-next.next = omega arith in e) ∙ c.in_ok-next.ensures in
    subst (λ ps. CanMake c.fresh.new.self (bindings_on (segments_at rows ps))) (take-map place_view own xs)
    (can_make_all rows (place_view c.args.at) (map place_view xs) own c.fresh.new.self c.requires.settled c.requires.up c.query_part-own.ensures.part
    (ap (λ (r : RegionView). r.store.now.bound) fresh) next)

pub returns : goal.returns
returns c =
    let rows = c.args.nodes.now.rows in
    let a = place_view c.args.at in
    let xs = c.args.places.now in
    let own = c.query_part-own.result in
    let r = c.bind_way.new.region in
    let fresh = c.in_ok-fresh.ensures.ok ∙ ap (λ (r : RegionView). record r { store = with_numbers c.in_ok-next.next r.store }) c.in_ok-region.ensures in
    let next : c.fresh.new.self.store.now.next ≡ next_number (segments_at rows (a ∷ []))
    = ap (λ (r : RegionView). r.store.now.next) fresh ∙ (let e : 0 + c.in_ok-next.next ≡ c.in_ok-next.next = omega arith in e) ∙ c.in_ok-next.ensures in
    let makes = subst (λ ps. Makes c.fresh.new.self r (bindings_on (segments_at rows ps))) (sym (take-map place_view own xs)) c.in_ok-bind_way.ensures in
    record {
      bound = all_bound rows a (map place_view xs) own c.fresh.new.self c.requires.settled c.requires.up c.query_part-own.ensures.part
          (ap (λ (r : RegionView). r.store.now.bound) fresh) next r makes;
      text_is = ap (λ (x : RegionView). x.text) c.in_ok-bind_way.ensures.others ∙ ap (λ (x : RegionView). x.text) fresh;
      no_choice = ap (λ (x : RegionView). x.choices) c.in_ok-bind_way.ensures.others ∙ ap (λ (x : RegionView). x.choices) fresh;
    }
