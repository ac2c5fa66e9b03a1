use Rattle.std.proofs.Common.{◌∙◌, sym}
use Rattle.op_table.proofs.ArgumentLemmas.{variable_passed, variable_here, variables_over}
use Rattle.op_table.proofs.change.has_variable.Goals as goal

pub returns-then-is_variable : goal.returns-then-is_variable
returns-then-is_variable c =
    sym (c.loop-item.invariant ∙ variable_here c.args.items.now c.loop-item.item-index c.item-item.result c.loop-item-test.true c.item-item.is (sym c.is_variable.ensures ∙ c.if-is_variable.true))

pub loop-item-preserved : goal.loop-item-preserved
loop-item-preserved c =
    c.loop-item.invariant ∙ variable_passed c.args.items.now c.loop-item.item-index c.item-item.result c.loop-item-test.true c.item-item.is (sym c.is_variable.ensures ∙ c.if-is_variable.false)

pub returns : goal.returns
returns c = sym (c.loop-item.invariant ∙ variables_over c.args.items.now c.loop-item.item-index c.loop-item-test.false)
