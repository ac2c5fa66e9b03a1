use Rattle.dyn_clauses.proofs.EntriesLemmas.{static_added}
use Rattle.dyn_clauses.proofs.database.Database.new.Goals as goal

pub loop-procedure-preserved : goal.loop-procedure-preserved
loop-procedure-preserved c = static_added c.loop-procedure.known.keys c.insert.new.self.keys c.loop-procedure.yielded c.in-Some.procedure c.in_ok-insert.ensures.updates.0 c.loop-procedure.invariant
