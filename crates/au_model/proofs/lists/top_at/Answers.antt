use Rattle.std.proofs.Common.{◌∷◌, ◌∙◌, ◌+◌, ap, drop, get_or, sym}
use Rattle.std.proofs.lemmas.List.{drop_more}
use Rattle.au_term.specs.PrefixOrder.{cells_of}
use Rattle.au_term.proofs.SubtermLemmas.{top_of-subterm}
use Rattle.au_model.proofs.lists.top_at.Goals as goal

pub returns : goal.returns
returns c =
    let cells = cells_of c.args.term.now in
    let found = c.index-cells-at.result in
    let is = c.index-cells-at.is ∙ ap (λ cs. get_or cs c.args.at found) c.cells.ensures.cells in
    let here = drop_more cells c.args.at found c.requires ∙ ap (λ x. x ∷ drop (c.args.at + 1) cells) (sym is) in
    sym (top_of-subterm c.args.term.now c.args.at found here)
