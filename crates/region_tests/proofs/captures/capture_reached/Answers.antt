use Rattle.std.proofs.Common.{◌≤◌, length, length-append, ◌∷◌, [], ap, arith}
use Rattle.region_split.specs.Regions.{RegionView}
use Rattle.region_split.proofs.ItemLemmas.{position_more}
use Rattle.region_tests.proofs.captures.capture_reached.Goals as goal

pub capture-requires-clause-position : goal.capture-requires-clause-position
capture-requires-clause-position c =
    let last = c.push_item.new.self in
    let put = c.in_ok-goal.ensures.ok in
    let adds = c.in_ok-push_choice-2.ensures.ok in
    let many : 1 ≤ length last.choices =
    let e = ap (λ (x : RegionView). length x.choices) put.others in
    let a = ap (λ (x : RegionView). length x.choices) adds.others in
    omega (arith, e, a, length-append c.unify-2.new.self.choices (adds.choice ∷ [])) in
    position_more last 1 (length last.choices) c.in_ok-goal.goal many put.position
