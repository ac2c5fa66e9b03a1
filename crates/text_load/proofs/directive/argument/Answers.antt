use Rattle.std.proofs.Common.{◌≡◌, ◌∙◌, IfOk, ap, subst}
use Rattle.au_term.specs.Term.{Term, argument}
use Rattle.au_term.specs.PrefixOrder.{term_of, term_of-cells_of}
use Rattle.text_load.proofs.directive.argument.Goals as goal

pub returns : goal.returns
returns c = subst (λ (u : Term). IfOk c.from_slice.result (λ t. t ≡ u)) (ap term_of c.arg.ensures.cells ∙ term_of-cells_of (argument c.args.i c.args.term.now)) c.from_slice.ensures.term
