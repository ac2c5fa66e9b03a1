use Rattle.proc_index.proofs.TakenLemmas.{clauses_in-push}
use Rattle.proc_index.proofs.taken.Taken.push.Goals as goal

pub returns-clause-ok : goal.returns-clause-ok
returns-clause-ok c = rw c.in_ok-push.ensures.ok (clauses_in-push c.self.inside.slots.items c.args.self.now c.in_ok-shared.shared _ c.self.view_is c.in_ok-shared.ensures.cases)
