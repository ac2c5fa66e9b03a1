use Rattle.std.proofs.Common.{OnOk, sym, subst, w64, rules}
use Rattle.std.proofs.lemmas.Int.{to_z-of_z}
use mir.Val.{SFits}
use Rattle.au_term.specs.declared.cell.Cell.TheVariants.{Int as IntCell}
use Rattle.term_reader.specs.PrimaryView.{leaf_tree}
use Rattle.term_reader.specs.OutputView.{IsOutputOf}
use Rattle.term_reader.specs.TermOutput.{emit_cell, emit_tree}
use Rattle.term_reader.proofs.output.TermOutput.leaf.Goals as goal

pub returns-in-Integer : goal.returns-in-Integer
returns-in-Integer c = λ s h.
    let f : SFits w64 c.in-Integer.number = search rules in
    subst (λ l. OnOk c.emit.result (IsOutputOf c.emit.new.self (emit_tree s (leaf_tree c.args.quotes l)))) (sym c.in-Integer.is)
    (subst (λ z. OnOk c.emit.result (IsOutputOf c.emit.new.self (emit_cell s (IntCell z)))) (to_z-of_z w64 c.in-Integer.number f) (c.emit.ensures s h))
