use Rattle.std.proofs.Common.{◌≡◌, sym, subst}
use Rattle.std.specs.Arc.{arc_value}
use Rattle.cell_store.specs.StoreView.{StoreView, with_numbers}
use Rattle.region_split.specs.Regions.{RegionView}
use Rattle.region_split.specs.StackOperations.{StaysStanding}
use Rattle.region_split.proofs.FindallLemmas.{by_result}
use Rattle.region_split.proofs.StoreLemmas.{stays_further, stays_same}
use Rattle.region_split.proofs.region.Region.fresh.Goals as goal

pub returns-clause-stays : goal.returns-clause-stays
returns-clause-stays c =
    let s = c.self.inside in
    let r : RegionView = record { text = arc_value s.text; store = s.store; frames = s.frames.items; choices = s.choices.items } in
    subst (λ (x : RegionView). StaysStanding x (record r { store = c.fresh.new.self })) c.self.view_is
    (by_result (c.fresh.new.self ≡ with_numbers c.args.count s.store) (c.fresh.new.self ≡ s.store) (StaysStanding r (record r { store = c.fresh.new.self })) c.fresh.result c.fresh.ensures.ok c.fresh.ensures.err
    (λ e. subst (λ (st : StoreView). StaysStanding r (record r { store = st })) (sym e) (stays_further r c.args.count))
    (λ e. subst (λ (st : StoreView). StaysStanding r (record r { store = st })) (sym e) (stays_same r)))
