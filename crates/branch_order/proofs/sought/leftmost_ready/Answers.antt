use Rattle.std.proofs.lemmas.Bool.{OnFalse_at}
use Rattle.branch_order.proofs.NoneLemmas.{no_ready}
use Rattle.branch_order.proofs.sought.leftmost_ready.Goals as goal

pub returns-else-may_have_ready-clause-first : goal.returns-else-may_have_ready-clause-first
returns-else-may_have_ready-clause-first c = no_ready c.args.nodes.now (OnFalse_at c.if-may_have_ready.false c.may_have_ready.ensures)
