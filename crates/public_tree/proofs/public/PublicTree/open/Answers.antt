use Rattle.std.proofs.Common.{sym, subst}
use Rattle.public_tree.specs.Opening.{opening_body, StandsFirst}
use Rattle.public_tree.proofs.OpeningLemmas.{opens}
use Rattle.public_tree.proofs.public.PublicTree.open.Goals as goal

pub returns-clause-opens : goal.returns-clause-opens
returns-clause-opens c =
    let e = c.in_ok-tree.ensures in
    let stands : StandsFirst (opening_body c.args.first) c.in_ok-tree.tree.nodes
    = subst (StandsFirst (opening_body c.args.first)) (sym e.nodes) c.in_ok-nodes.ensures in
    opens (opening_body c.args.first) c.in_ok-tree.tree stands e.lost e.halted e.stopped e.events
