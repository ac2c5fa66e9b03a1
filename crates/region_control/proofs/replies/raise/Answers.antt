use Rattle.region_control.proofs.ControlLemmas.{place_in}
use Rattle.region_control.proofs.replies.raise.Goals as goal

pub throw-requires : goal.throw-requires
throw-requires c = place_in c.args.region.now c.args.place c.requires
