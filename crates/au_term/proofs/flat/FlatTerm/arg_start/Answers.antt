use Rattle.std.proofs.Common.{◌≤◌, ◌+◌, length, drop, arith, rules, ap, ◌∙◌}
use Rattle.au_term.specs.PrefixOrder.{cells_of, terms_of, term_of}
use Rattle.au_term.proofs.StoredTermLemmas.{stored}
use Rattle.au_term.proofs.SubtermLemmas.{term_forest}
use Rattle.au_term.proofs.SizeFillLemmas.{Argument, argument_at}
use Rattle.au_term.proofs.flat.FlatTerm.arg_start.Goals as goal
use Rattle.au_term.proofs.flat.FlatTerm.arg_start.Goals.{After-deref}

found : (c : After-deref) → Argument (cells_of c.args.self.now) c.deref.result.now c.args.at c.args.i
found c =
    let k = stored c.args.self.now c.self.inside.cells.items c.self.inside.sizes.items c.self.invariant c.self.view_is in
    argument_at _ _ _ _ (term_forest c.args.self.now) (c.deref.ensures.value ∙ k.sizes_are) c.requires.place c.requires.argument

pub overflow_add-at : goal.overflow_add-at
overflow_add-at c =
    let k = stored c.args.self.now c.self.inside.cells.items c.self.inside.sizes.items c.self.invariant c.self.view_is in
    let le : c.args.at + 1 ≤ length c.deref.result.now = omega (arith, ap length c.deref.ensures.value, k.long, c.requires.place) in search rules

pub skip_terms-requires : goal.skip_terms-requires
skip_terms-requires c = (terms_of (drop (c.args.at + 1) (cells_of c.args.self.now)), (found c).has)

pub returns-clause-within : goal.returns-clause-within
returns-clause-within c =
    let f = found (goal.at.returns-clause-within c).After-deref in
    omega (arith, f.within, c.skip_terms.ensures _ f.has)

pub returns-clause-is : goal.returns-clause-is
returns-clause-is c =
    let f = found (goal.at.returns-clause-is c).After-deref in
    ap (λ r. term_of (drop r (cells_of c.args.self.now))) (c.skip_terms.ensures _ f.has) ∙ f.is
