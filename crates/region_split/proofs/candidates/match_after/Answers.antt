use Rattle.region_split.proofs.CandidateLemmas.{none_passed, passed_on, either_further}
use Rattle.region_split.proofs.candidates.match_after.Goals as goal

pub returns : goal.returns
returns c =
    let text = c.args.text.now in
    let next = c.args.store.now.now.next in
    let whole = c.args.left.now in
    let passing = passed_on text _ next whole whole (none_passed text _ next whole c.requires.cursor) c.take.new.left c.in_ok-clause.clause c.in_ok-clause.ensures.many c.in_ok-clause.ensures.taken (c.are_apart.ensures c.if-not-are_apart.false) in
    either_further text _ next whole c.take.new.left passing c.next_match.result c.next_match.new.left c.next_match.ensures
