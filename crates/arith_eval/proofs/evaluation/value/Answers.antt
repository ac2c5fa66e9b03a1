use Rattle.std.proofs.Common.{◌≡◌, ◌-◌, true, false, arith}
use Rattle.arith_eval.proofs.Stacks.{arguments_stacked, one_stacked, last_value}
use Rattle.arith_eval.proofs.evaluation.value.Goals as goal

pub cell_value-requires : goal.cell_value-requires
cell_value-requires c =
    arguments_stacked c.cells-cells.result.now (c.loop-at.at - 1) c.loop-at.at c.index-cells-at.result c.loop-at.values.items c.cells-cells.ensures.whole (omega arith) (omega (arith, c.loop-at.invariant.0)) c.index-cells-at.is c.loop-at.invariant.1

pub unreachable-requires : goal.unreachable-requires
unreachable-requires c =
    let one = one_stacked c.cells-cells.result.now c.loop-at.at c.loop-at.values.items c.cells-cells.ensures.whole c.loop-at-test.false c.loop-at.invariant.1 in
    let none : false ≡ true = c.in-None.ensures.variant.1 (omega (arith, one)) in
    cc

pub returns : goal.returns
returns c = last_value c.cells-cells.result.now c.loop-at.at c.loop-at.values.items _ c.in-Some.value c.args.term.now c.loop-at-test.false c.cells-cells.ensures.cells c.in-Some.ensures.items c.loop-at.invariant.1
