use Rattle.std.proofs.Common.{◌≡◌, [], length, ap, sym, ◌∙◌, subst}
use Rattle.std.specs.Arc.{arc_value}
use Rattle.cell_store.specs.StoreView.{StoreView, over_floor}
use Rattle.region_split.specs.Regions.{RegionView, IsConsistentRegion, region_setting}
use Rattle.region_split.proofs.StandingLemmas.{as_many}
use Rattle.region_split.proofs.StoreLemmas.{floored_region, none_of_them}
use Rattle.region_split.proofs.region.Region.set_floor.Goals as goal

unmarked : (r : RegionView) → IsConsistentRegion r → r.choices ≡ [] → r.store.marks ≡ []
unmarked r k none = none_of_them r.store.marks (sym (as_many (region_setting [] r) 0 0 r.choices r.store.marks k.choices) ∙ ap length none)

pub set_floor-requires : goal.set_floor-requires
set_floor-requires c =
    let s = c.self.inside in
    let r : RegionView = record { text = arc_value s.text; store = s.store; frames = s.frames.items; choices = s.choices.items } in
    unmarked r c.self.invariant (ap (λ (x : RegionView). x.choices) c.self.view_is ∙ c.requires)

pub invariant_of-self : goal.invariant_of-self
invariant_of-self c =
    let s = c.self.inside in
    let r : RegionView = record { text = arc_value s.text; store = s.store; frames = s.frames.items; choices = s.choices.items } in
    let none : r.choices ≡ [] = ap (λ (x : RegionView). x.choices) c.self.view_is ∙ c.requires in
    subst (λ (st : StoreView). IsConsistentRegion (record r { store = st })) (sym c.set_floor.ensures) (floored_region r none (unmarked r c.self.invariant none) c.self.invariant)

pub returns : goal.returns
returns c =
    let s = c.self.inside in
    let r : RegionView = record { text = arc_value s.text; store = s.store; frames = s.frames.items; choices = s.choices.items } in
    ap (λ (st : StoreView). (let x : RegionView = record r { store = st } in x)) c.set_floor.ensures ∙ ap (λ (x : RegionView). record x { store = over_floor x.store }) c.self.view_is
