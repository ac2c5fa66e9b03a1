use Rattle.std.proofs.Common.{arith, subst}
use Rattle.region_split.specs.ClauseTrials.{IsOptionalPosition}
use Rattle.region_split.proofs.ItemLemmas.{position_more}
use Rattle.region_capture.proofs.positions.capture_reached.Goals as goal

pub capture_position-requires-clause-position : goal.capture_position-requires-clause-position
capture_position-requires-clause-position c =
    let r = c.args.region.now in
    position_more r c.args.mark _ c.in-Some.position (let less = c.requires.mark in omega (arith, less)) (subst (IsOptionalPosition r c.args.mark) c.in-Some.is c.requires.reached)
