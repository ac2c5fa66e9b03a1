use Rattle.std.proofs.Common.{sym, subst}
use Rattle.clause_compile.proofs.GoalPlaceLemmas.{Placing, starts}
use Rattle.clause_compile.proofs.body.goal_places.Goals as goal

pub loop-at-init : goal.loop-at-init
loop-at-init c = subst (Placing c.args.body.now 0) (sym c.new-places.ensures.items) (starts c.args.body.now)
