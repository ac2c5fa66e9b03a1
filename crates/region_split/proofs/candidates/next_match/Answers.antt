use Rattle.region_split.proofs.CandidateLemmas.{passed_on}
use Rattle.region_split.proofs.candidates.next_match.Goals as goal

pub loop-clause-preserved : goal.loop-clause-preserved
loop-clause-preserved c =
    passed_on c.args.text.now _ c.args.store.now.now.next c.args.left.now c.loop-clause.left c.loop-clause.invariant c.take.new.left c.in-Some.clause c.in-Some.ensures.many c.in-Some.ensures.taken (c.are_apart.ensures c.if-not-are_apart.false)
