use Rattle.std.proofs.Common.{ap, sym, ◌∙◌, subst}
use Rattle.cell_store.specs.StoreView.{with_numbers}
use Rattle.region_split.specs.QueryEnds.{MayComeOver}
use Rattle.region_split.specs.Regions.{RegionView}
use Rattle.region_split.specs.declared.choice.Alternatives.TheVariants.{QueryEnd}
use Rattle.engine_tests.proofs.region_runs.region.Goals as goal

pub set_floor-requires : goal.set_floor-requires
set_floor-requires c = ap (λ (r : RegionView). r.choices) (c.in_ok-fresh.ensures.ok ∙ ap (λ (r : RegionView). record r { store = with_numbers c.args.variables r.store }) c.in_ok-region.ensures)

pub push_choice-requires-clause-values : goal.push_choice-requires-clause-values
push_choice-requires-clause-values c = ap (λ (r : RegionView). r.store.now) c.set_floor.ensures ∙ sym (ap (λ (r : RegionView). r.store.floor) c.set_floor.ensures)

pub push_choice-requires-clause-over : goal.push_choice-requires-clause-over
push_choice-requires-clause-over c =
    let none = ap (λ (r : RegionView). r.choices) (c.in_ok-fresh.ensures.ok ∙ ap (λ (r : RegionView). record r { store = with_numbers c.args.variables r.store }) c.in_ok-region.ensures) in
    subst (λ cs. MayComeOver cs QueryEnd) (sym (ap (λ (r : RegionView). r.choices) c.set_floor.ensures ∙ none)) tt
