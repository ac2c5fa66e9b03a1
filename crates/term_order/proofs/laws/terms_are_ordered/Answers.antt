use Rattle.term_order.proofs.TermOrder.{ordered_terms}
use Rattle.term_order.proofs.laws.terms_are_ordered.Goals as goal

pub returns : goal.returns
returns c = ordered_terms
