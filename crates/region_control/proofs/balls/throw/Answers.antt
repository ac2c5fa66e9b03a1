use Rattle.std.proofs.Common.{refl, ◌∙◌, subst}
use Rattle.region_control.specs.Balls.{IsCatchOver, RecoversOr}
use Rattle.region_control.proofs.BallLemmas.{catch_within}
use Rattle.region_control.proofs.ThrowLemmas.{unwinding_begun, lands, further_down, fewer_choices, none_takes}
use Rattle.region_control.proofs.balls.throw.Goals as goal

pub returns-in-Some-2-clause-lands : goal.returns-in-Some-2-clause-lands
returns-in-Some-2-clause-lands c =
    lands c.args.region.now c.loop-mark.region c.take_catch.new.region c.args.ball.now c.args.position c.loop-mark.mark c.in-Some.over c.in_ok-catch.catch c.in-Some.is c.loop-mark.invariant.0 c.in_ok-catch.ensures.taken c.recover.new.region c.in-Some-2.position
    (subst (RecoversOr c.take_catch.new.region c.recover.new.region c.args.ball.now c.in_ok-catch.catch) c.in-Some-2.is c.in_ok-position.ensures.recovers)

pub loop-mark-smaller : goal.loop-mark-smaller
loop-mark-smaller c =
    let fails = subst (RecoversOr c.take_catch.new.region c.recover.new.region c.args.ball.now c.in_ok-catch.catch) c.in-None.is c.in_ok-position.ensures.recovers in
    fewer_choices c.args.region.now c.loop-mark.region c.take_catch.new.region c.args.ball.now c.args.position c.loop-mark.mark c.in-Some.over c.in_ok-catch.catch c.in-Some.is c.loop-mark.invariant.0 c.in_ok-catch.ensures.taken c.recover.new.region fails.0 fails.1
    (catch_within c.loop-mark.region.choices c.in-Some.over (subst (IsCatchOver c.loop-mark.region.choices) c.in-Some.is c.loop-mark.invariant.0.there))

pub loop-mark-preserved : goal.loop-mark-preserved
loop-mark-preserved c =
    let fails = subst (RecoversOr c.take_catch.new.region c.recover.new.region c.args.ball.now c.in_ok-catch.catch) c.in-None.is c.in_ok-position.ensures.recovers in
    let step = c.in_ok-catch.ensures.text in
    let there = c.in_ok-position.ensures.text in (
      further_down c.args.region.now c.loop-mark.region c.take_catch.new.region c.args.ball.now c.args.position c.loop-mark.mark c.in-Some.over c.in_ok-catch.catch c.in-Some.is c.loop-mark.invariant.0 c.in_ok-catch.ensures.taken c.recover.new.region fails.0 fails.1
          c.in_ok-mark-in-None.mark c.in_ok-mark-in-None.ensures,
      (there ∙ (step ∙ c.loop-mark.invariant.1.0), c.in_ok-position.ensures.floor ∙ (c.in_ok-catch.ensures.floor ∙ c.loop-mark.invariant.1.1)),
    )

pub returns-clause-lands : goal.returns-clause-lands
returns-clause-lands c = none_takes c.args.region.now c.loop-mark.region c.cut_to.new.self c.args.ball.now c.args.position c.loop-mark.mark c.in_default.is c.loop-mark.invariant.0 c.cut_to.ensures

pub loop-mark-init : goal.loop-mark-init
loop-mark-init c = (unwinding_begun c.args.region.now c.args.ball.now c.args.position c.in_ok-mark.mark c.in_ok-mark.ensures, (refl, refl))
