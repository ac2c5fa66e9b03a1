use Rattle.task_publishing.proofs.MadeLemmas.{BranchesUpTo}
use Rattle.task_publishing.proofs.branches.branches_of.Given as goal

abbrev pub invariant-loop-alternative : goal.invariant-loop-alternative
invariant-loop-alternative l = BranchesUpTo l.goals l.base l.fn.first l.fn.alternatives.items l.alternative-iterator.rest.items l.branches.items
