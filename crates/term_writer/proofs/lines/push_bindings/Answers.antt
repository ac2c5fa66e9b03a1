use Rattle.std.proofs.lemmas.Result.{on_ok_weaker}
use Rattle.std.proofs.Common.{◌∙◌, arith}
use Rattle.term_writer.proofs.AnswerLineLemmas.{line_goes, line_ends}
use Rattle.term_writer.proofs.lines.push_bindings.Goals as goal

pub returns : goal.returns
returns c = on_ok_weaker c.end_line.result (λ k. k ∙ line_ends c.args.ops.now c.args.names.now c.args.values.now c.min-count.result c.loop-i.i c.loop-i.line.items _ c.min-count.ensures c.loop-i-test.false c.loop-i.auto.i-end c.loop-i.invariant) c.end_line.ensures

pub loop-i-preserved : goal.loop-i-preserved
loop-i-preserved c =
    line_goes c.args.ops.now c.args.names.now c.args.values.now c.loop-i.i c.index-names-i.result c.index-values-i.result c.loop-i.line.items c.push_separator.new.line.items c.push_binding.new.line.items _ (omega (arith, c.min-count.ensures)) (omega (arith, c.min-count.ensures)) c.index-names-i.is c.index-values-i.is c.loop-i.invariant c.in_ok-push_separator.ensures c.in_ok-push_binding.ensures
