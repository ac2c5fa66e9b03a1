use Rattle.std.proofs.Common.{arith}
use Rattle.public_tree.specs.Opening.{opening_body}
use Rattle.tree_core.proofs.OpenLemmas.{opened}
use Rattle.tree_core.proofs.tree.Tree.open.Goals as goal

pub invariant_of-result : goal.invariant_of-result
invariant_of-result g c =
    let k = c.in_ok-public.ensures in
    (opened g.J.JobBrand.job c.in_ok-public.public c.args.first (opening_body c.in_ok-body.body) c.args.budget c.args.window c.requires
    c.in_ok-body.ensures.made k.opens k.budget k.window (omega arith) (omega arith)).kept

pub returns : goal.returns
returns g c =
    let k = c.in_ok-public.ensures in
    (opened g.J.JobBrand.job c.in_ok-public.public c.args.first (opening_body c.in_ok-body.body) c.args.budget c.args.window c.requires
    c.in_ok-body.ensures.made k.opens k.budget k.window (omega arith) (omega arith)).history
