use Rattle.std.proofs.Common.{◌≡◌, ◌++◌, [], ◌∷◌, map, reverse, Some, sym, ap, ◌∙◌, subst, arith}
use Rattle.std.specs.Prelude.{IfSome}
use Rattle.cell_store.specs.StoreView.{StoreView}
use Rattle.region_split.specs.Regions.{RegionView}
use Rattle.tree_model.specs.EventViews.{place_view}
use Rattle.tree_model.specs.declared.places.AltRef.{AltRef}
use Rattle.branch_reading.specs.BranchSegments.{bindings_on, next_number}
use Rattle.task_region.specs.KeptRegions.{KeptView, IsKeptIn}
use Rattle.task_region.specs.MadeInTurn.{CanMake, Makes}
use Rattle.task_region.specs.PlacesUp.{AreAtNodes, HaveNoQuery, LeadsBelow, segments_at}
use Rattle.task_region.proofs.BelowLemmas.{can_go_down, goes_down}
use Rattle.task_region.proofs.PlaceUpLemmas.{all_there}
use Rattle.task_region.proofs.load.bound_below.Goals as goal

pub has_query-requires : goal.has_query-requires
has_query-requires c =
    let rows = c.args.nodes.now.rows in
    let below = subst (λ o. IfSome o (λ places. LeadsBelow rows (map place_view places.items) (place_view c.args.at) (place_view c.kept.inside.at))) c.in-Some.is c.in_ok-places.ensures in
    subst (λ xs. AreAtNodes rows (map place_view xs)) (sym c.deref.ensures.value) (all_there rows (map place_view c.in-Some.places.items) (Some (place_view c.args.at)) (Some (place_view c.kept.inside.at)) below.leads)

pub bind_way-requires-clause-nodes : goal.bind_way-requires-clause-nodes
bind_way-requires-clause-nodes c =
    let rows = c.args.nodes.now.rows in
    let below = subst (λ o. IfSome o (λ places. LeadsBelow rows (map place_view places.items) (place_view c.args.at) (place_view c.kept.inside.at))) c.in-Some.is c.in_ok-places.ensures in
    subst (λ xs. AreAtNodes rows (map place_view xs)) (sym c.deref-2.ensures.value) (all_there rows (map place_view c.in-Some.places.items) (Some (place_view c.args.at)) (Some (place_view c.kept.inside.at)) below.leads)

pub bind_way-requires-clause-can : goal.bind_way-requires-clause-can
bind_way-requires-clause-can c =
    let rows = c.args.nodes.now.rows in
    let xs = c.in-Some.places.items in
    let s = c.kept.inside in
    let k : KeptView = record { region = s.region; place = place_view s.at; numbers = s.numbers.items } in
    let text = c.args.kept.region.text in
    let kept = subst (IsKeptIn rows text) (sym c.kept.view_is) c.requires.kept in
    let below = subst (λ o. IfSome o (λ places. LeadsBelow rows (map place_view places.items) (place_view c.args.at) (place_view s.at))) c.in-Some.is c.in_ok-places.ensures in
    let none = subst (λ ys. HaveNoQuery rows (map place_view ys)) c.deref.ensures.value (c.has_query.ensures c.if-has_query.false) in
    let fresh = c.in_ok-fresh.ensures.ok in
    let next : c.fresh.new.self.store.now.next ≡ next_number (segments_at rows (place_view c.args.at ∷ [])) =
    let old = c.next.ensures.next ∙ ap (λ (st : StoreView). st.now.next) c.store.ensures.store in
    let more = c.in-Some-checked_sub.ensures in
    let f = ap (λ (r : RegionView). r.store.now.next) fresh in
    let e : c.fresh.new.self.store.now.next ≡ c.in_ok-next.next = omega (arith, old, more, f) in e ∙ c.in_ok-next.ensures in
    subst (λ ys. CanMake c.fresh.new.self (bindings_on (segments_at rows (map place_view ys)))) (sym c.deref-2.ensures.value)
    (can_go_down c.args.nodes.now c.live-live.ensures.sound (place_view c.args.at) xs k text kept below none c.requires.loadable c.fresh.new.self (ap (λ (r : RegionView). r.store.now.bound) fresh) next)

pub returns : goal.returns
returns c =
    let rows = c.args.nodes.now.rows in
    let xs = c.in-Some.places.items in
    let s = c.kept.inside in
    let k : KeptView = record { region = s.region; place = place_view s.at; numbers = s.numbers.items } in
    let text = c.args.kept.region.text in
    let kept = subst (IsKeptIn rows text) (sym c.kept.view_is) c.requires.kept in
    let below = subst (λ o. IfSome o (λ places. LeadsBelow rows (map place_view places.items) (place_view c.args.at) (place_view s.at))) c.in-Some.is c.in_ok-places.ensures in
    let none = subst (λ ys. HaveNoQuery rows (map place_view ys)) c.deref.ensures.value (c.has_query.ensures c.if-has_query.false) in
    let fresh = c.in_ok-fresh.ensures.ok in
    let next : c.fresh.new.self.store.now.next ≡ next_number (segments_at rows (place_view c.args.at ∷ [])) =
    let old = c.next.ensures.next ∙ ap (λ (st : StoreView). st.now.next) c.store.ensures.store in
    let more = c.in-Some-checked_sub.ensures in
    let f = ap (λ (r : RegionView). r.store.now.next) fresh in
    let e : c.fresh.new.self.store.now.next ≡ c.in_ok-next.next = omega (arith, old, more, f) in e ∙ c.in_ok-next.ensures in
    let makes = subst (λ ys. Makes c.fresh.new.self c.bind_way.new.region (bindings_on (segments_at rows (map place_view ys)))) c.deref-2.ensures.value c.in_ok-bind_way.ensures in
    let pushed : c.push_numbers.new.numbers.items ≡ s.numbers.items ++ reverse (map (λ (a : AltRef). a.node) xs) = c.in_ok-push_numbers.ensures ∙ ap (λ ys. s.numbers.items ++ reverse (map (λ (a : AltRef). a.node) ys)) c.deref-3.ensures.value in
    goes_down c.args.nodes.now c.live-live.ensures.sound (place_view c.args.at) xs k text kept below none c.requires.loadable c.fresh.new.self (ap (λ (r : RegionView). r.store.now.bound) fresh) next
    c.bind_way.new.region c.push_numbers.new.numbers.items makes pushed (ap (λ (r : RegionView). r.choices) fresh) (ap (λ (r : RegionView). r.text) fresh)
