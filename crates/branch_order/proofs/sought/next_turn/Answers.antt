use Rattle.std.proofs.Common.{◌<◌, length, sym, subst, arith}
use Rattle.tree_nodes.specs.Rows.{row_of_node, alternatives_at}
use Rattle.tree_nodes.specs.Fronts.{place_on}
use Rattle.branch_order.specs.Sought.{test_of, PassesAt}
use Rattle.tree_nodes.proofs.CellLemmas.{some_within}
use Rattle.branch_order.proofs.SoughtLemmas.{entry_found, goes_right, goes_down_at, jumped}
use Rattle.branch_order.proofs.sought.next_turn.Goals as goal

pub returns-then-is_sought-clause-leads : goal.returns-then-is_sought-clause-leads
returns-then-is_sought-clause-leads c =
    let nodes = c.args.nodes.now in
    let n = c.args.from.node in
    let i = c.loop-alternative.alternative in
    let l : i < length (alternatives_at (row_of_node nodes.rows n)) = (let w = c.width-width.ensures in omega (arith, w)) in
    λ most h. entry_found nodes (test_of c.args.sought) n i most (c.loop-alternative.invariant most h) l
    (subst (PassesAt nodes (place_on n i) (test_of c.args.sought)) c.if-is_sought.true c.is_sought.ensures)

pub returns-then-is_sought-clause-there : goal.returns-then-is_sought-clause-there
returns-then-is_sought-clause-there c =
    let cells = alternatives_at (row_of_node c.args.nodes.now.rows c.args.from.node) in
    let l : c.loop-alternative.alternative < length cells = (let w = c.width-width.ensures in omega (arith, w)) in
    some_within cells c.loop-alternative.alternative l

pub below-requires : goal.below-requires
below-requires c =
    let cells = alternatives_at (row_of_node c.args.nodes.now.rows c.args.from.node) in
    let l : c.loop-alternative.alternative < length cells = (let w = c.width-width.ensures in omega (arith, w)) in
    some_within cells c.loop-alternative.alternative l

pub returns-in-Some-clause-leads : goal.returns-in-Some-clause-leads
returns-in-Some-clause-leads c =
    let nodes = c.args.nodes.now in
    let n = c.args.from.node in
    let i = c.loop-alternative.alternative in
    let l : i < length (alternatives_at (row_of_node nodes.rows n)) = (let w = c.width-width.ensures in omega (arith, w)) in
    λ most h. goes_down_at nodes (test_of c.args.sought) n i c.in-Some.below most (c.loop-alternative.invariant most h) l (sym c.in-Some.ensures.below)

pub loop-alternative-smaller : goal.loop-alternative-smaller
loop-alternative-smaller c = (let f = c.after-alternative.ensures.next.further in let l = c.loop-alternative-test.true in omega (arith, f, l))

pub loop-alternative-preserved : goal.loop-alternative-preserved
loop-alternative-preserved c =
    let nodes = c.args.nodes.now in
    let n = c.args.from.node in
    let i = c.loop-alternative.alternative in
    let l : i < length (alternatives_at (row_of_node nodes.rows n)) = (let w = c.width-width.ensures in omega (arith, w)) in
    λ most h. jumped nodes c.args.sought n most i c.after-alternative.result c.after-alternative.ensures.next c.after-alternative.ensures.within
    (goes_right nodes (test_of c.args.sought) n i most (c.loop-alternative.invariant most h) l
    (subst (PassesAt nodes (place_on n i) (test_of c.args.sought)) c.if-is_sought.false c.is_sought.ensures)
    (sym c.in_default.ensures.below))
