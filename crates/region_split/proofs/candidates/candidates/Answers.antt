use Rattle.region_split.proofs.CandidateLemmas.{are_candidates}
use Rattle.region_split.proofs.candidates.candidates.Goals as goal

pub returns : goal.returns
returns c =
    are_candidates c.args.text.now c.args.store.now _ c.args.by c.args.store.now.now.next c.requires.program c.next-next.ensures.sound c.requires.numbers c.candidates.ensures.heads c.candidates.result c.candidates.ensures.numbers c.candidates.ensures.cursor
