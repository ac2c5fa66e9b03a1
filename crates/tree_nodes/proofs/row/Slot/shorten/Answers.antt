use Rattle.std.proofs.Common.{arith}
use Rattle.std.proofs.lemmas.Grind.{common_steps}
use Rattle.tree_nodes.proofs.HeldLemmas.{held_among-last}
use Rattle.tree_nodes.proofs.row.Slot.shorten.Goals as goal

pub returns-in-Some-pop-clause-ready : goal.returns-in-Some-pop-clause-ready
returns-in-Some-pop-clause-ready c = rw (← c.self.view_is, c.in-Some.is) (grind (arith, common_steps, held_among-last))

pub returns-in-Some-pop-clause-waiting : goal.returns-in-Some-pop-clause-waiting
returns-in-Some-pop-clause-waiting c = rw (← c.self.view_is, c.in-Some.is) (grind (arith, common_steps, held_among-last))
