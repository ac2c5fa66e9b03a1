use Rattle.std.proofs.Common.{sym, arith}
use Rattle.tree_model.specs.EventViews.{place_view}
use Rattle.branch_order.proofs.LeftLemmas.{row_within}
use Rattle.branch_order.proofs.LeftmostLemmas.{no_first, goes_down, nothing_down, is_leftmost}
use Rattle.branch_order.proofs.order.leftmost.Goals as goal

pub returns-in_default-clause-first : goal.returns-in_default-clause-first
returns-in_default-clause-first c = no_first c.args.nodes.now c.in_default.ensures.down

pub loop-at-init : goal.loop-at-init
loop-at-init c = c.in-Some.ensures.down

pub returns-in_default-first_of-clause-first : goal.returns-in_default-first_of-clause-first
returns-in_default-first_of-clause-first c = nothing_down c.args.nodes.now c.loop-at.node c.loop-at.invariant (sym c.in_default-first_of.ensures.first)

pub loop-at-smaller : goal.loop-at-smaller
loop-at-smaller c =
    let deeper = c.in-Some-below.ensures.deeper in
    let on = c.in-Some-first_of.ensures.on in
    let within = row_within c.args.nodes.now.rows c.in-Some-below.below deeper.0 in
    omega (arith, deeper.1, on, within)

pub loop-at-preserved : goal.loop-at-preserved
loop-at-preserved c = goes_down c.args.nodes.now c.loop-at.node (place_view c.in-Some-first_of.at) c.in-Some-below.below c.loop-at.invariant
    (sym c.in-Some-first_of.ensures.first) (sym c.in-Some-below.ensures.below)

pub returns-in-None-clause-first : goal.returns-in-None-clause-first
returns-in-None-clause-first c = is_leftmost c.args.nodes.now c.loop-at.node (place_view c.in-Some-first_of.at) c.loop-at.invariant
    (sym c.in-Some-first_of.ensures.first) (sym c.in-None.ensures.below)
