use Rattle.clause_index.proofs.OnlyLemmas.{both_left}
use Rattle.clause_index.proofs.index.ClauseIndex.only.Goals as goal

pub returns-in-Some-Some-clause-only : goal.returns-in-Some-Some-clause-only
returns-in-Some-Some-clause-only c =
    let by = c.in-ByKey in
    let some = c.in-Some-Some in
    both_left c.args.self.now c.args.left by.without_key by.with_key some._first some._other by.is some.is-0 some.is-1 c.requires
