use Rattle.std.proofs.Common.{◌∙◌, ap, get_or}
use Rattle.au_term.specs.PrefixOrder.{cells_of}
use Rattle.au_term.proofs.WholeTermLemmas.{whole, first_cell}
use Rattle.au_term.proofs.flat.FlatTerm.top.Goals as goal

pub returns : goal.returns
returns c =
    c.index.ensures ∙ (ap (λ cs. get_or cs 0 c.index.result.now) (whole c.self.inside.cells.items c.self.invariant.term.leaves ∙ ap cells_of c.self.view_is) ∙ first_cell c.args.self.now c.index.result.now)
