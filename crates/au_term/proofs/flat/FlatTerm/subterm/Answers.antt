use Rattle.std.proofs.Common.{◌≡◌, ◌<◌, ◌≤◌, length, slice_range, arith, rules, ap, ◌∙◌, sym, subst}
use Rattle.au_term.specs.PrefixOrder.{cells_of, IsTerm, subterm}
use Rattle.au_term.proofs.StoredTermLemmas.{IsStored, stored, taken, subterm_whole}
use Rattle.au_term.proofs.flat.FlatTerm.subterm.Goals as goal
use Rattle.au_term.proofs.flat.FlatTerm.subterm.Goals.{After-term_end}

all : (c : After-term_end) → IsStored c.args.self.now c.deref.result.now c.self.inside.sizes.items
all c = rw c.deref.ensures.value (stored c.args.self.now c.self.inside.cells.items c.self.inside.sizes.items c.self.invariant c.self.view_is)

cut : (c : After-term_end) → slice_range c.deref.result.now c.args.at c.term_end.result ≡ cells_of (subterm c.args.at c.args.self.now)
cut c = ap (λ cs. slice_range cs c.args.at c.term_end.result) (all c).cells_are ∙ taken c.args.self.now c.args.at c.term_end.result c.requires c.term_end.ensures.end

pub offset_bounds-deref-at : goal.offset_bounds-deref-at
offset_bounds-deref-at c =
    let lt : c.args.at < length c.deref.result.now = omega (arith, ap length (all c).cells_are, c.requires) in search rules

pub slice_bounds-result-end : goal.slice_bounds-result-end
slice_bounds-result-end c =
    let from : c.args.at ≤ c.term_end.result = omega (arith, c.term_end.ensures.end) in
    let within : c.term_end.result ≤ length c.deref.result.now = omega (arith, ap length (all c).cells_are, c.term_end.ensures.within) in
    search rules

pub returns-clause-cells : goal.returns-clause-cells
returns-clause-cells c = cut (goal.at.returns-clause-cells c).After-term_end

pub returns-clause-whole : goal.returns-clause-whole
returns-clause-whole c =
    let at_end = (goal.at.returns-clause-whole c).After-term_end in
    subst IsTerm (sym (cut at_end)) (subterm_whole c.args.self.now c.args.at (all at_end).sound c.requires)
