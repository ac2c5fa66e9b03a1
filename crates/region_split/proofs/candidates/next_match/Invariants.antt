use Rattle.std.proofs.Common.{length}
use Rattle.cell_store.specs.StoreView.{meaning}
use Rattle.clause_index.specs.Cursors.{numbers_left}
use Rattle.region_split.proofs.CandidateLemmas.{IsPassing}
use Rattle.region_split.proofs.candidates.next_match.Given as goal

abbrev pub invariant-loop-clause : goal.invariant-loop-clause
invariant-loop-clause l = IsPassing l.text (meaning l.store l.goal) l.store.now.next l.fn.left l.left

abbrev pub decreases-loop-clause : goal.decreases-loop-clause
decreases-loop-clause l = length (numbers_left l.text.heads l.left)
