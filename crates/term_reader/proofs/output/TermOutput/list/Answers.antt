use Rattle.std.proofs.Common.{◌≡◌, ◌∙◌, ◌+◌, suc, subst, arith}
use Rattle.au_term.specs.declared.cell.Cell.TheVariants.{Functor}
use Rattle.au_model.specs.Syntax.Trees.{list_name}
use Rattle.term_reader.specs.OutputView.{IsOutputOf}
use Rattle.term_reader.specs.TermOutput.{emit_cell, emit_lists}
use Rattle.term_reader.proofs.output.TermOutput.list.Goals as goal

pub loop-i-preserved : goal.loop-i-preserved
loop-i-preserved c = λ s h.
    let i = c.loop-i.i in
    let k = c.in_ok-compound.ensures (emit_lists i s) (c.loop-i.invariant s h) in
    let n : c.in_ok-again.again ≡ list_name = c.in_ok-again.ensures ∙ c.in_ok-name.ensures in
    let e : suc i ≡ i + 1 = omega arith in
    subst (λ m. IsOutputOf c.compound.new.self (emit_lists m s)) e (subst (λ x. IsOutputOf c.compound.new.self (emit_cell (emit_lists i s) (Functor x 2))) n k)
