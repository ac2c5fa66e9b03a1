use Rattle.std.proofs.Common.{◌≤◌, ◌∙◌, [], ◌∷◌, length, length-append, ap, sym, subst, arith}
use Rattle.std.proofs.lemmas.List.{nil_from_length}
use Rattle.region_split.specs.QueryEnds.{MayComeOver}
use Rattle.region_split.specs.declared.choice.Alternatives.TheVariants.{QueryEnd}
use Rattle.region_split.specs.Regions.{RegionView}
use Rattle.region_split.proofs.ItemLemmas.{position_more}
use Rattle.region_tests.proofs.captures.capture_binding.Goals as goal

pub set_floor-requires : goal.set_floor-requires
set_floor-requires c = nil_from_length c.args.region.now.choices c.requires.none

pub push_choice-requires-clause-values : goal.push_choice-requires-clause-values
push_choice-requires-clause-values c = ap (λ (r : RegionView). r.store.now) c.set_floor.ensures ∙ sym (ap (λ (r : RegionView). r.store.floor) c.set_floor.ensures)

pub push_choice-requires-clause-over : goal.push_choice-requires-clause-over
push_choice-requires-clause-over c =
    subst (λ cs. MayComeOver cs QueryEnd) (sym (ap (λ (r : RegionView). r.choices) c.set_floor.ensures ∙ nil_from_length c.args.region.now.choices c.requires.none)) tt

pub capture-requires-clause-position : goal.capture-requires-clause-position
capture-requires-clause-position c =
    let p = c.in_ok-goal.goal in
    let put = c.in_ok-goal.ensures.ok in
    let adds = c.in_ok-push_choice-2.ensures.ok in
    let bound = c.in_ok-unify.ensures.stays in
    let grown = c.fresh.ensures.stays in
    let unnamed = c.in_ok-unify-2.ensures.stays in
    let last = c.unify-2.new.self in
    let many : 1 ≤ length last.choices =
    let e = ap (λ (x : RegionView). length x.choices) bound.others in
    let g = ap (λ (x : RegionView). length x.choices) grown.others in
    let u = ap (λ (x : RegionView). length x.choices) unnamed.others in
    let a = ap (λ (x : RegionView). length x.choices) adds.others in
    omega (arith, e, g, u, a, length-append c.push_item.new.self.choices (adds.choice ∷ [])) in
    position_more last 1 (length last.choices) p many
    (unnamed.position 1 p (grown.position 1 p (bound.position 1 p (adds.keeps.position 1 p put.position.frame put.position))))
