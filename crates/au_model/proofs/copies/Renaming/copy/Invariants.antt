use Rattle.au_model.proofs.CopyLemmas.{Copying}
use Rattle.au_model.proofs.copies.Renaming.copy.Given as goal

abbrev pub invariant-loop-cell : goal.invariant-loop-cell
invariant-loop-cell l = Copying l.term l.fn.self l.next l.cells l.cell-index l.renaming l.builder
