use Rattle.std.proofs.Common.{◌-◌, arith}
use Rattle.tree_nodes.proofs.GapLemmas.{right_joined}
use Rattle.tree_nodes.proofs.gaps.join_left.Goals as goal

pub returns : goal.returns
returns c =
    let old = c.args.gaps.now.items in
    let i = c.args.index in
    let l = c.requires.left in
    let m = c.requires.many in
    right_joined old c.set_right.new.gaps.items i ((i - 1) - c.args.left) c.args.many (omega (arith, l)) (omega (arith, l)) (omega (arith, l, m)) c.set_right.ensures
