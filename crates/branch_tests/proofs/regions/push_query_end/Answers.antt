use Rattle.std.proofs.Common.{ap, sym, ◌∙◌, subst, arith}
use Rattle.std.proofs.lemmas.List.{nil_from_length}
use Rattle.region_split.specs.QueryEnds.{MayComeOver}
use Rattle.region_split.specs.Regions.{RegionView}
use Rattle.region_split.specs.declared.choice.Alternatives.TheVariants.{QueryEnd}
use Rattle.branch_tests.proofs.regions.push_query_end.Goals as goal

pub set_floor-requires : goal.set_floor-requires
set_floor-requires g c = nil_from_length c.args.region.now.choices (let h = c.height.ensures in omega (arith, h))

pub push_choice-requires-clause-values : goal.push_choice-requires-clause-values
push_choice-requires-clause-values g c = ap (λ (r : RegionView). r.store.now) c.set_floor.ensures ∙ sym (ap (λ (r : RegionView). r.store.floor) c.set_floor.ensures)

pub push_choice-requires-clause-over : goal.push_choice-requires-clause-over
push_choice-requires-clause-over g c =
    let none = nil_from_length c.args.region.now.choices (let h = c.height.ensures in omega (arith, h)) in
    subst (λ cs. MayComeOver cs QueryEnd) (sym (ap (λ (r : RegionView). r.choices) c.set_floor.ensures ∙ none)) tt
