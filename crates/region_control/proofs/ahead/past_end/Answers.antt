use Rattle.std.proofs.Common.{length, subst}
use Rattle.region_split.specs.Regions.{IsLeftAt, GoesOnIn}
use Rattle.region_split.proofs.ItemLemmas.{position_more}
use Rattle.region_control.proofs.ahead.past_end.Goals as goal

pub left_at-requires : goal.left_at-requires
left_at-requires c = position_more c.args.region.now c.args.cut (length c.args.region.now.choices) c.args.position c.requires.scope c.requires.over

pub returns-in-GoesOnAt-clause-over : goal.returns-in-GoesOnAt-clause-over
returns-in-GoesOnAt-clause-over c =
    let r = c.args.region.now in
    let older : GoesOnIn r c.args.position c.in-GoesOnAt.older = subst (IsLeftAt r c.args.position) c.in-GoesOnAt.is c.left_at.ensures in
    older.over c.args.cut c.requires.over
