use Rattle.std.proofs.Common.{◌∙◌, [], ◌∷◌, ◌++◌, ap}
use Rattle.au_term.proofs.WholeTermLemmas.{AreSound-push}
use Rattle.term_reader.proofs.output.TermOutput.emit.Goals as goal

pub returns : goal.returns
returns c = λ s h. record {
  cells = c.in_ok-push.ensures.items ∙ ap (λ cs. cs ++ c.args.cell ∷ []) h.cells;
  sound = AreSound-push s.cells c.args.cell h.sound c.requires;
  variables = h.variables;
}
