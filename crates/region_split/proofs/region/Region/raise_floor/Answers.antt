use Rattle.std.proofs.Common.{ap, sym, ◌∙◌, subst}
use Rattle.std.specs.Arc.{arc_value}
use Rattle.au_model.specs.Terms.Each.{Each}
use Rattle.cell_store.specs.StoreView.{StoreView, raised}
use Rattle.region_split.specs.QueryEnds.{IsEnd}
use Rattle.region_split.specs.Regions.{RegionView, IsConsistentRegion}
use Rattle.region_split.proofs.RaisedLemmas.{raised_region}
use Rattle.region_split.proofs.region.Region.raise_floor.Goals as goal

pub invariant_of-self-2 : goal.invariant_of-self-2
invariant_of-self-2 c =
    let s = c.self.inside in
    let r : RegionView = record { text = arc_value s.text; store = s.store; frames = s.frames.items; choices = s.choices.items } in
    let ends : Each (λ k. IsEnd k.alternatives) r.choices = subst (λ (x : RegionView). Each (λ k. IsEnd k.alternatives) x.choices) (sym c.self.view_is) c.requires in
    subst (λ (st : StoreView). IsConsistentRegion (record r { store = st })) (sym c.in_ok-raise_floor.ensures.ok) (raised_region r ends c.in_ok-raise_floor.ensures.older c.self.invariant)

pub returns-clause-ok : goal.returns-clause-ok
returns-clause-ok c =
    let s = c.self.inside in
    let r : RegionView = record { text = arc_value s.text; store = s.store; frames = s.frames.items; choices = s.choices.items } in
    ap (λ (st : StoreView). (let x : RegionView = record r { store = st } in x)) c.in_ok-raise_floor.ensures.ok ∙ ap (λ (x : RegionView). record x { store = raised x.store }) c.self.view_is
