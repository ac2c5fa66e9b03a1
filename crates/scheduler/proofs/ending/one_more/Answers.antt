use Rattle.scheduler.proofs.EndLemmas.{none_opened, one_opened}
use Rattle.scheduler.proofs.ending.one_more.Goals as goal

pub returns-then-asked-count-clause-left : goal.returns-then-asked-count-clause-left
returns-then-asked-count-clause-left c = one_opened c.args.count c.args.asked c.if-asked-count.true

pub returns-else-asked-count-clause-left : goal.returns-else-asked-count-clause-left
returns-else-asked-count-clause-left c = none_opened c.args.count c.args.asked c.if-asked-count.false
