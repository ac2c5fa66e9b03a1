use Rattle.tree_nodes.proofs.GapLemmas.{still_shut, still_open, now_shut}
use Rattle.tree_nodes.proofs.gaps.regap.Goals as goal

pub returns-in-false-true : goal.returns-in-false-true
returns-in-false-true c = now_shut c.args.gaps.now.items c.shut_gap.new.gaps.items c.args.index c.args.was c.args.now c.in-false-true.is-1 c.shut_gap.ensures

pub returns-in-true-true : goal.returns-in-true-true
returns-in-true-true c = still_shut c.args.gaps.now.items c.args.index c.args.was c.args.now c.in-true-true.is-1

pub returns-in-false-false : goal.returns-in-false-false
returns-in-false-false c = still_open c.args.gaps.now.items c.args.index c.args.was c.args.now c.in-false-false.is-0
