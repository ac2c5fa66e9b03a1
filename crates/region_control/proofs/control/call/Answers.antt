use Rattle.std.proofs.Common.{sym, subst}
use Rattle.region_split.specs.Regions.{IsPositionOver}
use Rattle.region_control.proofs.ControlLemmas.{place_in}
use Rattle.region_control.proofs.control.call.Goals as goal

pub push_goals-requires-clause-after : goal.push_goals-requires-clause-after
push_goals-requires-clause-after c =
    subst (λ n. IsPositionOver c.args.region.now n c.args.place.after) (sym c.in_ok-own.ensures.count) (place_in c.args.region.now c.args.place c.requires.place)
