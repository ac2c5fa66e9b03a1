use Rattle.std.proofs.Common.{◌≡◌, ap, ◌∙◌, sym, get_or}
use Rattle.au_term.specs.PrefixOrder.{arity, top_of, term_of}
use Rattle.au_term.specs.Term.{argument_count}
use Rattle.au_term.proofs.WholeTermLemmas.{whole, first_cell}
use Rattle.au_term.proofs.ArgumentLemmas.{arity-top_of}
use Rattle.au_term.proofs.ShiftLemmas.{argument_count-shifted}
use Rattle.au_term.proofs.shared.Shared.arity.Goals as goal

pub returns : goal.returns
returns c =
    let cells = c.parts.result.0.now in
    let first : get_or cells 0 c.index-parts-0.result ≡ top_of (term_of cells) =
    ap (λ cs. get_or cs 0 c.index-parts-0.result) (whole cells c.parts.ensures.whole.leaves) ∙ first_cell (term_of cells) c.index-parts-0.result in
    c.arity.ensures ∙ (ap arity first ∙ (arity-top_of (term_of cells) ∙ (sym (argument_count-shifted c.parts.result.1 (term_of cells)) ∙ ap argument_count c.parts.ensures.term)))
