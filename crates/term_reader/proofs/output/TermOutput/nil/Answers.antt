use Rattle.std.proofs.Common.{OnOk, subst}
use Rattle.au_term.specs.declared.cell.Cell.TheVariants.{Atom as AtomCell}
use Rattle.term_reader.specs.OutputView.{IsOutputOf}
use Rattle.term_reader.specs.TermOutput.{emit_cell}
use Rattle.term_reader.proofs.output.TermOutput.nil.Goals as goal

pub returns : goal.returns
returns c = λ s h. subst (λ x. OnOk c.emit.result (IsOutputOf c.emit.new.self (emit_cell s (AtomCell x)))) c.in_ok-name.ensures (c.emit.ensures s h)
