use Rattle.std.proofs.Common.{◌≡◌, ◌≤◌, ◌-◌, ap, ap₂, ◌∙◌, sym, subst, arith, drop}
use Rattle.au_term.specs.Term.{more, count, take_terms}
use Rattle.au_term.specs.PrefixOrder.{cells_of, terms_of, term_of, subterm, term_of-cells_of}
use Rattle.au_term.proofs.ArgumentLemmas.{Follows, follows}
use Rattle.au_term.proofs.arguments.ArgumentsIterator.next.Goals as goal
use Rattle.au_term.proofs.arguments.ArgumentsIterator.next.Goals.{After-self-2-1}

one : (c : After-self-2-1) → Follows c.self.inside.term.now c.self.inside.at c.self.inside.left
one c = follows c.self.inside.term.now c.self.inside.at c.self.inside.left (omega arith) c.self.invariant

given : (c : After-self-2-1) → c.args.self.now ≡ more (term_of c.subterm-cells.result.now) (take_terms (c.self.inside.left - 1) (terms_of (drop c.term_end-self-inside.result (cells_of c.self.inside.term.now))))
given c =
    let t = c.self.inside.term.now in
    let first : term_of c.subterm-cells.result.now ≡ subterm c.self.inside.at t = ap term_of c.subterm-cells.ensures.cells ∙ term_of-cells_of _ in
    sym c.self.view_is ∙ ((one c).first ∙ ap₂ (λ u n. more u (take_terms (c.self.inside.left - 1) (terms_of (drop n (cells_of t))))) (sym first) (sym c.term_end-self-inside.ensures.end))

pub invariant_of-self : goal.invariant_of-self
invariant_of-self c = subst (λ n. c.self.inside.left - 1 ≤ count (terms_of (drop n (cells_of c.self.inside.term.now)))) (sym c.term_end-self-inside.ensures.end) (one c).enough

pub returns-clause-steps : goal.returns-clause-steps
returns-clause-steps c = (given c, c.subterm-cells.ensures.whole)

pub returns-clause-goes : goal.returns-clause-goes
returns-clause-goes c = let fewer = ap count (given c) in record { on = λ h. (tt, tt, omega (arith, fewer)); keeps = tt; rests = λ h. tt }
