use Rattle.std.proofs.Common.{◌∙◌, sym, ap, refl}
use Rattle.au_model.specs.Syntax.PostOperators.{post_operator_fits}
use Rattle.op_table.specs.OperatorView.{operator_meant}
use Rattle.term_reader.specs.LexemeView.{post_operator_meant}
use Rattle.term_reader.specs.FrameShapes.{frame_meant, emitted_stack}
use Rattle.term_reader.specs.TermOutput.{emit_tree}
use Rattle.term_reader.proofs.OperatorReductionLemmas.{reduce_top-prefix, reduce_top-infix}
use Rattle.term_reader.proofs.state.State.reduce_top.Goals as goal

pub returns-in_ok-compound-in-Some-Prefix-clause-reduced : goal.returns-in_ok-compound-in-Some-Prefix-clause-reduced
returns-in_ok-compound-in-Some-Prefix-clause-reduced c = λ s k l n h.
    let a = c.in-Some-Prefix in
    let j = post_operator_meant n c.args.post_operator in
    reduce_top-prefix s j k l c.args.priority c.args.self.now _ c.pop.new.self.items a.field-0 a.name (operator_meant a.operator) h a.ensures.items (ap frame_meant a.field-0-is) refl
    (c.in_ok-compound-in-Some-Prefix.ensures (emit_tree (emitted_stack k) l) h.output)
    (sym (c.fits.ensures n ∙ ap (λ b. post_operator_fits b c.args.priority j) (c.bound.ensures k h.shapes)) ∙ c.if-fits.false)

pub returns-in_ok-compound-in-Some-Infix-clause-reduced : goal.returns-in_ok-compound-in-Some-Infix-clause-reduced
returns-in_ok-compound-in-Some-Infix-clause-reduced c = λ s k l n h.
    let a = c.in-Some-Infix in
    let j = post_operator_meant n c.args.post_operator in
    reduce_top-infix s j k l c.args.priority c.args.self.now _ c.pop.new.self.items a.field-0 a.name (operator_meant a.operator) h a.ensures.items (ap frame_meant a.field-0-is) refl
    (c.in_ok-compound-in-Some-Infix.ensures (emit_tree (emitted_stack k) l) h.output)
    (sym (c.fits.ensures n ∙ ap (λ b. post_operator_fits b c.args.priority j) (c.bound.ensures k h.shapes)) ∙ c.if-fits.false)
