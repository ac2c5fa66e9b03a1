use Rattle.std.proofs.Common.{◌∙◌, sym, ap, subst}
use Rattle.au_term.specs.PrefixOrder.{term_of, term_of-cells_of, AreValidCells, IsTerm}
use Rattle.au_model.specs.Syntax.VariableNumbers.{no_variables, numbered}
use Rattle.term_reader.specs.TermOutput.{no_cells, emit_tree}
use Rattle.term_reader.proofs.TermOutputLemmas.{emit-numbered, turned-term}
use Rattle.term_reader.proofs.output.TermOutput.finish.Goals as goal

pub from_cells-requires : goal.from_cells-requires
from_cells-requires c =
    let t = c.requires.0 in
    let h = c.requires.1 in
    let e = ap (λ s. s.cells) (emit-numbered no_cells t) in
    let term = (numbered no_variables t).0 in
    subst IsTerm (sym (c.in_ok-turned.ensures term (h.cells ∙ e))) (turned-term term (subst AreValidCells e h.sound))

pub returns : goal.returns
returns c = λ t h.
    let e = ap (λ s. s.cells) (emit-numbered no_cells t) in
    let term = (numbered no_variables t).0 in (
      c.in_ok-term.ensures.term ∙ (ap term_of (c.in_ok-turned.ensures term (h.cells ∙ e)) ∙ term_of-cells_of term),
      c.names.ensures (emit_tree no_cells t).variables h.variables ∙ ap (λ s. s.variables.named) (emit-numbered no_cells t),
    )
