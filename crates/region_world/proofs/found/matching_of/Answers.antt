use Rattle.region_world.proofs.FoundEffectLemmas.{never_found}
use Rattle.region_world.proofs.found.matching_of.Goals as goal

pub unreachable-requires : goal.unreachable-requires
unreachable-requires c = never_found c.args.effect.now c.args.store.now.now.next c.requires.found c.in_default.not-Call c.in_default.not-Retract c.in_default.not-Clause
