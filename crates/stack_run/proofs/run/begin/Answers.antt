use Rattle.stack_run.proofs.RunLemmas.{begins_so}
use Rattle.stack_run.proofs.run.begin.Goals as goal

pub returns-clause-begins : goal.returns-clause-begins
returns-clause-begins c =
    begins_so c.args.program.now c.in_ok-region.region c.args.world c.ask_next.new.machine c.in_ok-next.next c.requires c.in_ok-next.ensures.opens c.in_ok-next.ensures.world c.in_ok-next.ensures.there c.in_ok-next.ensures.text
