use Rattle.std.proofs.Common.{◌≤◌, length}
use Rattle.clause_index.specs.Chains.{AreLinkedFrom}
use Rattle.clause_index.proofs.index.ClauseIndex.new.Given as goal

abbrev pub invariant-loop-from : goal.invariant-loop-from
invariant-loop-from l = (l.from ≤ length l.heads.items) × AreLinkedFrom l.heads.items l.next_of_procedure.items l.next_of_class.items l.firsts l.from

abbrev pub decreases-loop-from : goal.decreases-loop-from
decreases-loop-from l = l.from
