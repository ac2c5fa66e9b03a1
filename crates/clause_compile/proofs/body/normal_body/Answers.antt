use Rattle.std.proofs.Common.{◌≤◌, length, sym, subst}
use Rattle.clause_compile.proofs.NormalBodyLemmas.{Keeping, starts, ends}
use Rattle.clause_compile.proofs.body.normal_body.Goals as goal

pub loop-at-init : goal.loop-at-init
loop-at-init c = subst (Keeping c.args.body.now 0) (sym c.new-builder.ensures) (starts c.args.body.now)

pub returns : goal.returns
returns c = ends c.args.body.now c.finish.result c.loop-at.at c.loop-at.builder c.loop-at.invariant (subst (λ cs. length cs ≤ c.loop-at.at) c.cells-count.ensures.cells c.loop-at-test.false) c.finish.ensures.cells
