use Rattle.std.proofs.Common.{◌≡◌, ◌+◌, ◌-◌, ◌<◌, ◌∷◌, suc, length, drop, ap, ◌∙◌, sym, subst, arith, rules}
use Rattle.std.proofs.lemmas.List.{drop_all, nil_from_length}
use Rattle.au_term.specs.PrefixOrder.{terms_of, term_of, IsForest}
use Rattle.au_term.proofs.SizeFillLemmas.{opened}
use Rattle.au_term.proofs.VariableBoundLemmas.{AreSound-at}
use Rattle.au_term.proofs.SubtermLemmas.{term_forest}
use Rattle.clause_compile.specs.Places.{ArePlacesOf, meanings}
use Rattle.clause_compile.proofs.CodeLemmas.{keeps_same, cell_added, enough_there, placed, none_missing}
use Rattle.clause_compile.proofs.code.Code.push_cells.Goals as goal
use Rattle.clause_compile.proofs.code.Code.push_cells.Goals.{After-stack-1}

pub loop-left-init : goal.loop-left-init
loop-left-init c = record {
  within = omega arith;
  keeps = keeps_same c.args.self.now;
  stand = subst (ArePlacesOf c.args.self.now) (sym c.new-stack.ensures.items) tt;
  means = ap (meanings c.args.self.now) c.new-stack.ensures.items ∙ ap terms_of (sym (drop_all (length c.args.cells.now) c.args.cells.now (omega arith)));
}

pub bounds-cells-left : goal.bounds-cells-left
bounds-cells-left c = omega arith

pub offset_bounds-cells-left : goal.offset_bounds-cells-left
offset_bounds-cells-left c = let lt : c.loop-left.left - 1 < length c.args.cells.now = omega arith in search rules

opens_here : (c : After-stack-1) → drop (c.loop-left.left - 1) c.args.cells.now ≡ c.index-cells-left.result ∷ drop (suc (c.loop-left.left - 1)) c.args.cells.now
opens_here c =
    let next : suc (c.loop-left.left - 1) ≡ c.loop-left.left - 1 + 1 = omega arith in
    opened c.args.cells.now (c.loop-left.left - 1) c.index-cells-left.result (omega arith) c.index-cells-left.is ∙ ap (λ n. c.index-cells-left.result ∷ drop n c.args.cells.now) (sym next)

means_here : (c : After-stack-1) → meanings c.loop-left.self c.loop-left.stack.items ≡ terms_of (drop (suc (c.loop-left.left - 1)) c.args.cells.now)
means_here c = let same : c.loop-left.left ≡ suc (c.loop-left.left - 1) = omega arith in c.loop-left.invariant.means ∙ ap (λ n. terms_of (drop n c.args.cells.now)) same

pub push_cell-requires-clause-enough : goal.push_cell-requires-clause-enough
push_cell-requires-clause-enough c =
    enough_there c.index-cells-left.result c.args.cells.now (c.loop-left.left - 1) c.loop-left.self c.loop-left.stack.items (subst IsForest c.requires.cells (term_forest (term_of c.args.cells.now))) (opens_here c) (means_here c)

pub push_cell-requires-clause-sound : goal.push_cell-requires-clause-sound
push_cell-requires-clause-sound c = AreSound-at c.args.cells.now (c.loop-left.left - 1) c.index-cells-left.result c.requires.sound (omega arith) c.index-cells-left.is

pub loop-left-preserved : goal.loop-left-preserved
loop-left-preserved c =
    let before = (goal.at.loop-left-preserved c).After-stack-1 in
    let h = cell_added c.args.self.now c.loop-left.self c.push_cell.new.self c.index-cells-left.result c.args.cells.now (c.loop-left.left - 1) c.loop-left.stack.items c.push_cell.new.stack.items c.loop-left.invariant.keeps (means_here before) (opens_here before) c.in_ok-push_cell.ensures in
    record { within = omega arith; keeps = h.0; stand = c.in_ok-push_cell.ensures.stand; means = h.1 }

pub unreachable-requires : goal.unreachable-requires
unreachable-requires c =
    let none : c.loop-left.left ≡ 0 = omega arith in
    none_missing c.loop-left.self (term_of c.args.cells.now) c.loop-left.stack.items (c.loop-left.invariant.means ∙ (ap (λ n. terms_of (drop n c.args.cells.now)) none ∙ ap terms_of (sym c.requires.cells))) (nil_from_length c.loop-left.stack.items (omega (arith, c.in-None.ensures.cases, c.loop-left.stack.ok.0)))

pub returns : goal.returns
returns c =
    let none : c.loop-left.left ≡ 0 = omega arith in
    placed c.args.self.now c.loop-left.self (term_of c.args.cells.now) c.loop-left.stack.items c.pop.new.self.items c.in-Some.place c.loop-left.invariant.keeps c.loop-left.invariant.stand
    (c.loop-left.invariant.means ∙ (ap (λ n. terms_of (drop n c.args.cells.now)) none ∙ ap terms_of (sym c.requires.cells))) c.in-Some.ensures.items
