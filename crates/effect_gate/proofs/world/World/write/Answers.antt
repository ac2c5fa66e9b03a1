use Rattle.effect_gate.proofs.RefusalLemmas.{written_done}
use Rattle.effect_gate.proofs.world.World.write.Goals as goal

pub returns-clause-done : goal.returns-clause-done
returns-clause-done c = written_done c.args.style c.args.self.now c.write_into.new.out c.args.term.now c.in_ok-write_into.ensures.ok
