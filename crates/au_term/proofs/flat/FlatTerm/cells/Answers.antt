use Rattle.std.proofs.Common.{subst, sym, ◌∙◌, ap}
use Rattle.au_term.specs.PrefixOrder.{cells_of, IsTerm}
use Rattle.au_term.proofs.WholeTermLemmas.{whole}
use Rattle.au_term.proofs.flat.FlatTerm.cells.Goals as goal

pub returns-clause-cells : goal.returns-clause-cells
returns-clause-cells c = c.deref.ensures.value ∙ whole c.self.inside.cells.items c.self.invariant.term.leaves ∙ ap cells_of c.self.view_is

pub returns-clause-whole : goal.returns-clause-whole
returns-clause-whole c = subst IsTerm (sym c.deref.ensures.value) c.self.invariant.term
