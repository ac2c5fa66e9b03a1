use Rattle.std.proofs.Common.{sym}
use Rattle.clause_index.specs.Classes.{key_class}
use Rattle.clause_index.proofs.ChainLemmas.{by_own}
use Rattle.clause_index.proofs.OnlyLemmas.{followed}
use Rattle.clause_index.proofs.index.ClauseIndex.alone_in_class.Goals as goal

pub returns-in-Some-clause-only : goal.returns-in-Some-clause-only
returns-in-Some-clause-only c =
    sym (followed key_class by_own c.args.self.now c.args.number c.in-Some.field-0 c.next_in_class.result c.in-Some.is c.next_in_class.ensures.below c.next_in_class.ensures.next)
