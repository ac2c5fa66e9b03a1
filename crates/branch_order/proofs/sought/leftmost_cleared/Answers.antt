use Rattle.std.proofs.lemmas.Bool.{OnFalse_at}
use Rattle.branch_order.proofs.NoneLemmas.{no_waiting}
use Rattle.branch_order.proofs.sought.leftmost_cleared.Goals as goal

pub returns-else-may_have_waiting-clause-first : goal.returns-else-may_have_waiting-clause-first
returns-else-may_have_waiting-clause-first c = no_waiting c.args.nodes.now (OnFalse_at c.if-may_have_waiting.false c.may_have_waiting.ensures)
