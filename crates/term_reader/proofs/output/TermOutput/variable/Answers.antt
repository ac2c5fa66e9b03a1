use Rattle.std.proofs.Common.{◌∙◌, [], ◌∷◌, ◌++◌, ap, subst}
use Rattle.au_term.specs.PrefixOrder.{AreValidCells}
use Rattle.au_term.specs.declared.cell.Cell.TheVariants.{Var as VarCell}
use Rattle.au_term.proofs.WholeTermLemmas.{AreSound-push}
use Rattle.term_reader.proofs.output.TermOutput.variable.Goals as goal

pub returns : goal.returns
returns c = λ s h.
    let k = c.in_ok-number.ensures s.variables h.variables in
    let n = c.in_ok-number.number in
    record {
      cells = c.in_ok-push.ensures.items ∙ (ap (λ cs. cs ++ VarCell n ∷ []) h.cells ∙ ap (λ m. s.cells ++ VarCell m ∷ []) k.number);
      sound = subst (λ m. AreValidCells (s.cells ++ VarCell m ∷ [])) k.number (AreSound-push s.cells (VarCell n) h.sound k.low);
      variables = k.rest;
    }
