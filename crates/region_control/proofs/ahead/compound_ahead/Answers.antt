use Rattle.region_control.proofs.AheadLemmas.{compound_lies_ahead}
use Rattle.region_control.proofs.ahead.compound_ahead.Goals as goal

pub returns : goal.returns
returns c = compound_lies_ahead c.args.region.now c.args.position c.in_ok-at.field-0 c.requires c.in_ok-at.ensures
