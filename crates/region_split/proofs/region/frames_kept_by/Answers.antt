use Rattle.std.proofs.Common.{length, ◌-◌, arith}
use Rattle.region_split.proofs.StandingLemmas.{newest_keeps}
use Rattle.region_split.proofs.region.frames_kept_by.Goals as goal

pub returns-in-Some : goal.returns-in-Some
returns-in-Some c = let item = c.in-Some.ensures.item in newest_keeps 0 c.args.choices.now (length c.args.choices.now - 1) c.in-Some.choice.now (omega (arith, item.3.0)) item.1
