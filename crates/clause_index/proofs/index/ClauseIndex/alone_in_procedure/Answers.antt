use Rattle.std.proofs.Common.{sym}
use Rattle.clause_index.specs.Classes.{procedure_class}
use Rattle.clause_index.proofs.ChainLemmas.{by_procedure}
use Rattle.clause_index.proofs.OnlyLemmas.{followed}
use Rattle.clause_index.proofs.index.ClauseIndex.alone_in_procedure.Goals as goal

pub returns-in-Some-clause-only : goal.returns-in-Some-clause-only
returns-in-Some-clause-only c =
    sym (followed procedure_class by_procedure c.args.self.now c.args.number c.in-Some.field-0 c.next_in_procedure.result c.in-Some.is c.next_in_procedure.ensures.below c.next_in_procedure.ensures.next)
