use Rattle.std.proofs.Common.{◌≡◌, ◌<◌, ◌+◌, ◌^◌, ap, ◌∙◌, sym, subst}
use Rattle.std.specs.Arc.{arc_value}
use Rattle.au_term.specs.PrefixOrder.{term_of, subterm, term_of-cells_of}
use Rattle.au_term.specs.Shifted.{shifted}
use Rattle.au_term.specs.Term.{var_bound}
use Rattle.au_term.proofs.shared.Shared.parts.Goals as goal
use Rattle.au_term.proofs.shared.Shared.parts.Goals.{After-subterm}

same : (c : After-subterm) → term_of c.subterm.result.now ≡ subterm c.self.inside.at (arc_value c.self.inside.skeleton)
same c = ap term_of c.subterm.ensures.cells ∙ (term_of-cells_of _ ∙ ap (subterm c.self.inside.at) c.deref.ensures)

pub returns-clause-term : goal.returns-clause-term
returns-clause-term c = ap (shifted c.self.inside.base) (same c) ∙ c.self.view_is

pub returns-clause-fits : goal.returns-clause-fits
returns-clause-fits c = subst (λ t. c.self.inside.base + var_bound t < 2 ^ 64) (sym (same c)) c.self.invariant.fits
