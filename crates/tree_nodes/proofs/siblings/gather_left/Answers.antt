use Rattle.std.proofs.Common.{◌-◌, length, map, sym, arith}
use Rattle.tree_nodes.specs.Rows.{credit_view}
use Rattle.tree_nodes.specs.Siblings.{alternative_view}
use Rattle.tree_nodes.proofs.SiblingLemmas.{item_at}
use Rattle.tree_nodes.proofs.SomeLemmas.{on_err, left_here}
use Rattle.tree_nodes.proofs.siblings.gather_left.Goals as goal

pub returns-in_err-add_left-clause-some : goal.returns-in_err-add_left-clause-some
returns-in_err-add_left-clause-some c =
    let items = c.args.alternatives.now in
    let x = c.index-alternatives-alternatives.result in
    let end = c.loop-i.auto.i-end in
    let within = c.loop-i-test.true in
    let there = item_at items (length items - 1 - c.loop-i.i) x (omega (arith, within, end)) c.index-alternatives-alternatives.is in
    on_err c.from_residual.result _
    (left_here (map alternative_view items) c.args.gathered.now (length items - 1 - c.loop-i.i) (alternative_view x) (credit_view c.in-Some.credit.now) there
    (sym c.in-Some.ensures) c.in_err-add_left.ensures.some)
