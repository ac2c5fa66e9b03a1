use Rattle.std.proofs.Common.{◌≡◌, ◌+◌, ◌-◌, ◌++◌, drop, ◌≤◌, ◌<◌, length, rules, ap, ◌∙◌, sym, subst}
use Rattle.std.specs.Arc.{arc_value}
use Rattle.au_term.specs.PrefixOrder.{cells_of, subterm}
use Rattle.au_term.specs.Shifted.{shifted}
use Rattle.au_term.proofs.StoredTermLemmas.{Ends}
use Rattle.au_term.proofs.InnerTermLemmas.{Inner, inner, inner_ends}
use Rattle.au_term.proofs.shared.Shared.term_end.Goals as goal
use Rattle.au_term.proofs.shared.Shared.term_end.Goals.{After-deref-2, After-term_end}

there : (c : After-deref-2) → Inner (arc_value c.self.inside.skeleton) c.self.inside.at c.self.inside.base c.args.at
there c = inner (arc_value c.self.inside.skeleton) c.self.inside.at c.self.inside.base c.args.at c.self.invariant (subst (λ t. c.args.at < length (cells_of t)) (sym c.self.view_is) c.requires)

within : (c : After-deref-2) → c.self.inside.at + c.args.at < length c.cells-cells.result.now
within c = subst (λ cs. c.self.inside.at + c.args.at < length cs) (sym (c.cells-cells.ensures.cells ∙ ap cells_of c.deref.ensures)) (there c).place.within

pub overflow_add-self-inside : goal.overflow_add-self-inside
overflow_add-self-inside c = let lt : c.self.inside.at + c.args.at < length c.cells-cells.result.now = within c in search rules

pub term_end-requires : goal.term_end-requires
term_end-requires c = subst (λ t. c.self.inside.at + c.args.at < length (cells_of t)) (sym c.deref-2.ensures) (there c).place.within

stops : (c : After-term_end) → Ends (shifted c.self.inside.base (subterm c.self.inside.at (arc_value c.self.inside.skeleton))) c.args.at (c.term_end.result - c.self.inside.at)
stops c =
    inner_ends (arc_value c.self.inside.skeleton) c.self.inside.at c.self.inside.base c.args.at c.term_end.result c.self.invariant (subst (λ t. c.args.at < length (cells_of t)) (sym c.self.view_is) c.requires)
    (c.term_end.ensures.end ∙ ap (λ t. c.self.inside.at + c.args.at + length (cells_of (subterm (c.self.inside.at + c.args.at) t))) c.deref-2.ensures)

pub returns-clause-rest : goal.returns-clause-rest
returns-clause-rest c =
    subst (λ t. drop c.args.at (cells_of t) ≡ cells_of (subterm c.args.at t) ++ drop (c.term_end.result - c.self.inside.at) (cells_of t)) c.self.view_is (stops (goal.at.returns-clause-rest c).After-term_end).rest

pub returns-clause-within : goal.returns-clause-within
returns-clause-within c =
    subst (λ t. c.term_end.result - c.self.inside.at ≤ length (cells_of t)) c.self.view_is (stops (goal.at.returns-clause-within c).After-term_end).within
