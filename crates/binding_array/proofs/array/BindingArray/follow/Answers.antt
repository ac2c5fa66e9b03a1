use Rattle.std.proofs.Common.{◌≡◌, ◌∙◌, ◌<◌, sym, subst, arith, ℕ}
use Rattle.binding_array.specs.Represented.{variable_cell, CellStandsFor}
use Rattle.binding_array.specs.declared.cell.BindingCell.TheVariants.{Var}
use Rattle.binding_array.proofs.RepresentedLemmas.{link_falls, link_stands, end_of, stored_at, stood}
use Rattle.binding_array.proofs.SpareCellLemmas.{read_shown, shown_falls}
use Rattle.binding_array.proofs.array.BindingArray.follow.Goals as goal

pub loop-next-preserved : goal.loop-next-preserved
loop-next-preserved c =
    let cell : variable_cell c.args.self.now c.loop-next.at ≡ Var c.in-Var.next = read_shown c.self.inside.count c.self.inside.cells.items c.args.self.now c.loop-next.at c.index.result.now c.self.invariant c.self.view_is c.loop-next.invariant.within c.index.ensures ∙ c.in-Var.is in
    let falls : c.in-Var.next < c.loop-next.at = link_falls c.args.self.now c.loop-next.at c.in-Var.next (shown_falls c.self.inside.count c.self.inside.cells.items c.args.self.now c.self.invariant c.self.view_is) cell in
    let within = c.loop-next.invariant.within in
    record { within = omega (arith, falls, within); same = λ code s r. c.loop-next.invariant.same code s r ∙ link_stands code c.args.self.now s c.loop-next.at c.in-Var.next r cell }

pub returns-in_default-index : goal.returns-in_default-index
returns-in_default-index c =
    let value = c.index-2.result.now in
    let cell : variable_cell c.args.self.now c.loop-next.at ≡ value = read_shown c.self.inside.count c.self.inside.cells.items c.args.self.now c.loop-next.at value c.self.invariant c.self.view_is c.loop-next.invariant.within c.index-2.ensures in
    let first : variable_cell c.args.self.now c.loop-next.at ≡ c.index.result.now = read_shown c.self.inside.count c.self.inside.cells.items c.args.self.now c.loop-next.at c.index.result.now c.self.invariant c.self.view_is c.loop-next.invariant.within c.index.ensures in
    let not_var : (x : ℕ) → value ≡ Var x → ⊥ = λ x e. c.in_default.not-Var x (sym first ∙ (cell ∙ e)) in
    let end = end_of c.args.self.now value not_var c.in_default-index.not-Free in
    record { end = end.0; stored = stored_at c.args.self.now c.loop-next.at value cell not_var c.in_default-index.not-Free; same = λ code s r. c.loop-next.invariant.same code s r ∙ stood code s c.loop-next.at value end.1 (subst (CellStandsFor code s c.loop-next.at) cell (r c.loop-next.at)) }
