use Rattle.std.proofs.Common.{◌≡◌, ◌+◌, ◌∷◌, drop, ◌<◌, length, get_or, rules, ap, ◌∙◌, sym, subst}
use Rattle.std.specs.Arc.{arc_value}
use Rattle.au_term.specs.PrefixOrder.{cells_of}
use Rattle.au_term.specs.Shifted.{shifted_cell}
use Rattle.au_term.proofs.VariableBoundLemmas.{AreSound-at}
use Rattle.au_term.proofs.InnerTermLemmas.{Inner, inner, CellThere, cell_there}
use Rattle.au_term.proofs.shared.Shared.cell_at.Goals as goal
use Rattle.au_term.proofs.shared.Shared.cell_at.Goals.{After-cells-cells, After-index-cells-self}

there : (c : After-cells-cells) → Inner (arc_value c.self.inside.skeleton) c.self.inside.at c.self.inside.base c.args.at
there c = inner (arc_value c.self.inside.skeleton) c.self.inside.at c.self.inside.base c.args.at c.self.invariant (subst (λ t. c.args.at < length (cells_of t)) (sym c.self.view_is) c.requires)

within : (c : After-cells-cells) → c.self.inside.at + c.args.at < length c.cells-cells.result.now
within c = subst (λ cs. c.self.inside.at + c.args.at < length cs) (sym (c.cells-cells.ensures.cells ∙ ap cells_of c.deref.ensures)) (there c).place.within

pub overflow_add-result : goal.overflow_add-result
overflow_add-result c = let lt : c.self.inside.at + c.args.at < length c.cells-cells.result.now = within c in search rules

pub offset_bounds-cells-self-inside : goal.offset_bounds-cells-self-inside
offset_bounds-cells-self-inside c = let lt : c.self.inside.at + c.args.at < length c.cells-cells.result.now = within c in search rules

pub bounds-cells-self-inside : goal.bounds-cells-self-inside
bounds-cells-self-inside c = within c

found : (c : After-index-cells-self) → CellThere (arc_value c.self.inside.skeleton) c.self.inside.at c.self.inside.base c.args.at c.index-cells-self.result
found c =
    cell_there (arc_value c.self.inside.skeleton) c.self.inside.at c.self.inside.base c.args.at c.index-cells-self.result c.self.invariant (subst (λ t. c.args.at < length (cells_of t)) (sym c.self.view_is) c.requires)
    (c.index-cells-self.is ∙ ap (λ cs. get_or cs (c.self.inside.at + c.args.at) c.index-cells-self.result) (c.cells-cells.ensures.cells ∙ ap cells_of c.deref.ensures))

pub returns-clause-cell : goal.returns-clause-cell
returns-clause-cell c =
    subst (λ t. drop c.args.at (cells_of t) ≡ shifted_cell c.self.inside.base c.index-cells-self.result ∷ drop (c.args.at + 1) (cells_of t)) c.self.view_is (found (goal.at.returns-clause-cell c).After-index-cells-self).is

pub returns-clause-sound : goal.returns-clause-sound
returns-clause-sound c =
    AreSound-at c.cells-cells.result.now (c.self.inside.at + c.args.at) c.index-cells-self.result c.cells-cells.ensures.whole.sound (within (goal.at.returns-clause-sound c).After-cells-cells) c.index-cells-self.is

pub returns-clause-fits : goal.returns-clause-fits
returns-clause-fits c = (found (goal.at.returns-clause-fits c).After-index-cells-self).fits
