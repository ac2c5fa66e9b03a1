use Rattle.std.proofs.Common.{◌≡◌, ◌+◌, length, length-append, ◌∷◌, [], ◌∙◌, sym, ap, subst, arith}
use Rattle.region_split.specs.Regions.{RegionView}
use Rattle.task_region.specs.BareRegions.{LaysFloor}
use Rattle.task_region.proofs.FloorLemmas.{low_floor, one_more_end, over_floor}
use Rattle.task_region.proofs.floor.lay_floor.Goals as goal

pub push_choice-requires-clause-values : goal.push_choice-requires-clause-values
push_choice-requires-clause-values c = c.loop-region.invariant.lays.now ∙ sym c.loop-region.invariant.lays.start

pub loop-region-init : goal.loop-region-init
loop-region-init c =
    let r = c.args.region.now in
    let new = c.raise_floor.new.self in
    let same = ap (λ (x : RegionView). length x.choices) c.in_ok-raise_floor.ensures.ok in
    record {
      lays = subst (LaysFloor r new) (sym same) (low_floor r new c.in_ok-raise_floor.ensures.ok c.requires.ends c.ends_are_oldest.ensures.marks);
      within = let few = c.requires.few in omega (arith, same, few);
    }

pub loop-region-preserved : goal.loop-region-preserved
loop-region-preserved c =
    let r = c.loop-region.region in
    let new = c.push_choice.new.self in
    let adds = c.in_ok-push_choice.ensures.ok in
    let more : length new.choices ≡ length r.choices + 1 = ap (λ (x : RegionView). length x.choices) adds.others ∙ length-append r.choices (adds.choice ∷ []) in
    record {
      lays = subst (LaysFloor c.args.region.now new) (sym more)
          (one_more_end c.args.region.now r new (length r.choices) c.nothing_left-nothing.result c.loop-region.invariant.lays adds);
      within = let h = c.height.ensures in let t = c.loop-region-test.true in omega (arith, more, h, t);
    }

pub returns-clause-over : goal.returns-clause-over
returns-clause-over c =
    let r = c.loop-region.region in
    let done : length r.choices ≡ c.args.count = let h = c.height.ensures in let t = c.loop-region-test.false in let w = c.loop-region.invariant.within in omega (arith, h, t, w) in
    let lays = subst (LaysFloor c.args.region.now r) done c.loop-region.invariant.lays in
    λ named. over_floor c.args.region.now r c.args.count c.in_ok-_scope._scope lays c.in_ok-_scope.ensures.count named (c.in_ok-_scope.ensures.height named)
