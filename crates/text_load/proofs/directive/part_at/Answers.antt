use Rattle.std.proofs.Common.{◌≡◌, ◌∙◌, IfOk, ap, subst}
use Rattle.au_term.specs.Term.{Term}
use Rattle.au_term.specs.PrefixOrder.{subterm, term_of, term_of-cells_of}
use Rattle.text_load.proofs.directive.part_at.Goals as goal

pub returns : goal.returns
returns c = subst (λ (u : Term). IfOk c.from_slice.result (λ t. t ≡ u)) (ap term_of c.subterm.ensures.cells ∙ term_of-cells_of (subterm c.args.at c.args.term.now)) c.from_slice.ensures.term
