use Rattle.std.proofs.Common.{sym, subst}
use Rattle.tree_nodes.specs.Gaps.{IsFlat}
use Rattle.tree_nodes.proofs.GapLemmas.{flat_nil, flat_more}
use Rattle.tree_nodes.proofs.gaps.no_gaps.Goals as goal

pub loop-i-init : goal.loop-i-init
loop-i-init c = subst IsFlat (sym c.new-gaps.ensures.items) flat_nil

pub loop-i-preserved : goal.loop-i-preserved
loop-i-preserved c = subst IsFlat (sym c.in_ok-push.ensures.items) (flat_more c.loop-i.gaps.items c.loop-i.invariant)
