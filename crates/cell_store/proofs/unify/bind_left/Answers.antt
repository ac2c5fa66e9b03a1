use Rattle.cell_store.proofs.FreshLemmas.{left_stays}
use Rattle.cell_store.proofs.unify.bind_left.Goals as goal

pub returns-clause-stays : goal.returns-clause-stays
returns-clause-stays c = left_stays c.args.store.now c.bind_checked.new.store c.args.fresh.now c.fresh_after.result c.args.variable c.args.value c.in_ok-outcome.outcome c.requires.no_variable c.fresh_after.ensures c.in_ok-outcome.ensures.bound
