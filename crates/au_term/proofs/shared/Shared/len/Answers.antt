use Rattle.std.proofs.Common.{◌≡◌, ap, ◌∙◌, sym, length}
use Rattle.au_term.specs.PrefixOrder.{cells_of, term_of}
use Rattle.au_term.proofs.WholeTermLemmas.{whole}
use Rattle.au_term.proofs.InnerTermLemmas.{length-cells_of-shifted}
use Rattle.au_term.proofs.shared.Shared.len.Goals as goal

pub returns : goal.returns
returns c =
    let cells = c.parts.result.0.now in
    let same : length (cells_of c.args.self.now) ≡ length cells = ap (λ t. length (cells_of t)) (sym c.parts.ensures.term) ∙ (length-cells_of-shifted c.parts.result.1 (term_of cells) ∙ ap length (sym (whole cells c.parts.ensures.whole.leaves))) in sym same
