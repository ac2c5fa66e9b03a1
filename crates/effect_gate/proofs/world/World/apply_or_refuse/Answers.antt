use Rattle.std.proofs.Common.{subst, sym}
use Rattle.effect_gate.specs.Refusals.{IsEffectDone}
use Rattle.effect_gate.proofs.world.World.apply_or_refuse.Goals as goal

pub returns-in-HaltWith-clause-applied : goal.returns-in-HaltWith-clause-applied
returns-in-HaltWith-clause-applied c = subst (λ e. IsEffectDone e c.args.self.now c.args.self.now c.halt_with.result) (sym c.in-HaltWith.is) (c.halt_with.ensures c.args.self.now)
