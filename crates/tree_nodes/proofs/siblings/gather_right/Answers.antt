use Rattle.std.proofs.Common.{map, sym}
use Rattle.tree_nodes.specs.Rows.{credit_view}
use Rattle.tree_nodes.specs.Siblings.{alternative_view}
use Rattle.tree_nodes.proofs.SiblingLemmas.{item_at}
use Rattle.tree_nodes.proofs.SomeLemmas.{on_err, right_here}
use Rattle.tree_nodes.proofs.siblings.gather_right.Goals as goal

pub returns-in_err-add_right-clause-some : goal.returns-in_err-add_right-clause-some
returns-in_err-add_right-clause-some c =
    let items = c.args.alternatives.now in
    let x = c.alternative-item.result in
    let there = item_at items c.loop-alternative.alternative-index x c.loop-alternative-test.true c.alternative-item.is in
    on_err c.from_residual.result _
    (right_here c.args.gathered.now (map alternative_view items) c.loop-alternative.alternative-index (alternative_view x) (credit_view c.in-Some.credit.now) there
    (sym c.in-Some.ensures) c.in_err-add_right.ensures.some)
