use Rattle.std.proofs.Common.{◌≡◌, ◌+◌, ◌++◌, length}
use Rattle.proc_index.proofs.taken.take_all.Given as goal

abbrev pub invariant-loop-clause : goal.invariant-loop-clause
invariant-loop-clause g l = record {
  all : l.taken ++ l.left ≡ l.fn.clauses;
  counted : l.steps ≡ l.fn.steps + length l.taken;
}

abbrev pub decreases-loop-clause : goal.decreases-loop-clause
decreases-loop-clause g l = length l.left
