use Rattle.std.proofs.Common.{◌-◌, length}
use Rattle.au_term.specs.PrefixOrder.{cells_of}
use Rattle.clause_compile.proofs.NormalBodyLemmas.{Keeping}
use Rattle.clause_compile.proofs.body.normal_body.Given as goal

abbrev pub invariant-loop-at : goal.invariant-loop-at
invariant-loop-at l = Keeping l.body l.at l.builder

abbrev pub decreases-loop-at : goal.decreases-loop-at
decreases-loop-at l = length (cells_of l.body) - l.at
