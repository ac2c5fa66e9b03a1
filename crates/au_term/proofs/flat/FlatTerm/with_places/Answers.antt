use Rattle.std.proofs.Common.{sym, subst}
use Rattle.au_term.specs.PrefixOrder.{IsForest}
use Rattle.au_term.proofs.WholeTermLemmas.{whole}
use Rattle.au_term.proofs.StoredTermLemmas.{whole_forest}
use Rattle.au_term.proofs.flat.FlatTerm.with_places.Goals as goal

pub fill_sizes-requires-clause-forest : goal.fill_sizes-requires-clause-forest
fill_sizes-requires-clause-forest c = subst IsForest (sym c.deref.ensures.value) (whole_forest c.args.cells.items c.requires.whole)

pub returns-clause-cells : goal.returns-clause-cells
returns-clause-cells c = sym (whole c.args.cells.items c.requires.whole.leaves)
