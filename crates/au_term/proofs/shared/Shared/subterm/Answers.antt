use Rattle.std.proofs.Common.{◌+◌, ◌<◌, length, rules, ap, ◌∙◌, sym, subst}
use Rattle.std.specs.Arc.{arc_value}
use Rattle.au_term.specs.PrefixOrder.{cells_of, subterm}
use Rattle.au_term.specs.Shifted.{shifted, IsShiftablePlace}
use Rattle.au_term.proofs.InnerTermLemmas.{inner}
use Rattle.au_term.proofs.shared.Shared.subterm.Goals as goal

pub overflow_add-result : goal.overflow_add-result
overflow_add-result c =
    let i = inner (arc_value c.self.inside.skeleton) c.self.inside.at c.self.inside.base c.args.at c.self.invariant (subst (λ t. c.args.at < length (cells_of t)) (sym c.self.view_is) c.requires) in
    let lt : c.self.inside.at + c.args.at < length c.cells-cells.result.now = subst (λ cs. c.self.inside.at + c.args.at < length cs) (sym (c.cells-cells.ensures.cells ∙ ap cells_of c.deref.ensures)) i.place.within in search rules

pub invariant_of-result : goal.invariant_of-result
invariant_of-result c =
    let i = inner (arc_value c.self.inside.skeleton) c.self.inside.at c.self.inside.base c.args.at c.self.invariant (subst (λ t. c.args.at < length (cells_of t)) (sym c.self.view_is) c.requires) in
    subst (λ t. IsShiftablePlace t (c.self.inside.at + c.args.at) c.self.inside.base) (sym c.in_ok-clone.ensures.cases) i.place

pub returns : goal.returns
returns c =
    let i = inner (arc_value c.self.inside.skeleton) c.self.inside.at c.self.inside.base c.args.at c.self.invariant (subst (λ t. c.args.at < length (cells_of t)) (sym c.self.view_is) c.requires) in
    ap (λ t. shifted c.self.inside.base (subterm (c.self.inside.at + c.args.at) t)) c.in_ok-clone.ensures.cases ∙ (i.same ∙ ap (subterm c.args.at) c.self.view_is)
