use Rattle.std.proofs.Common.{◌≡◌, ◌+◌, ◌-◌, ◌≤◌, ◌∷◌, suc, length, drop, ap, ◌∙◌, sym, subst, arith}
use Rattle.std.proofs.lemmas.List.{drop_all, nil_from_length}
use Rattle.au_term.specs.PrefixOrder.{cells_of, terms_of}
use Rattle.au_term.specs.Shifted.{shifted_cell}
use Rattle.au_term.proofs.SubtermLemmas.{term_forest}
use Rattle.clause_compile.specs.Places.{ArePlacesOf, meanings}
use Rattle.clause_compile.proofs.CodeLemmas.{keeps_same, cell_added, enough_there, placed, none_missing}
use Rattle.cell_store.specs.HeapView.{heap_text}
use Rattle.cell_store.proofs.HeapGrowthLemmas.{grows_same, grows_twice, shifted_arity}
use Rattle.cell_store.proofs.heap.Heap.push_term.Goals as goal

pub loop-left-init : goal.loop-left-init
loop-left-init c =
    let cells = cells_of c.args.term.now in
    record {
      within = omega (arith, c.len-left.ensures);
      keeps = keeps_same (heap_text c.args.self.now);
      stand = subst (ArePlacesOf (heap_text c.args.self.now)) (sym c.new-stack.ensures.items) tt;
      means = ap (meanings (heap_text c.args.self.now)) c.new-stack.ensures.items ∙ ap terms_of (sym (drop_all c.len-left.result cells (omega (arith, c.len-left.ensures))));
      grown = grows_same c.args.self.now c.requires;
    }

pub push_cell-requires-clause-enough : goal.push_cell-requires-clause-enough
push_cell-requires-clause-enough c =
    let cells = cells_of c.args.term.now in
    let i = c.loop-left.left - 1 in
    let cell = shifted_cell c.cell_at-base.result.1 c.cell_at-base.result.0.now in
    let next : i + 1 ≡ suc i = omega arith in
    let opens : drop i cells ≡ cell ∷ drop (suc i) cells = c.cell_at-base.ensures.cell ∙ ap (λ n. cell ∷ drop n cells) next in
    let same : c.loop-left.left ≡ suc i = omega (arith, c.loop-left-test.true) in
    let means = c.loop-left.invariant.means ∙ ap (λ n. terms_of (drop n cells)) same in
    subst (λ n. n ≤ length c.loop-left.stack.items) (shifted_arity c.cell_at-base.result.1 c.cell_at-base.result.0.now) (enough_there cell cells i (heap_text c.loop-left.self) c.loop-left.stack.items (term_forest c.args.term.now) opens means)

pub loop-left-preserved : goal.loop-left-preserved
loop-left-preserved c =
    let cells = cells_of c.args.term.now in
    let i = c.loop-left.left - 1 in
    let cell = shifted_cell c.cell_at-base.result.1 c.cell_at-base.result.0.now in
    let next : i + 1 ≡ suc i = omega arith in
    let opens : drop i cells ≡ cell ∷ drop (suc i) cells = c.cell_at-base.ensures.cell ∙ ap (λ n. cell ∷ drop n cells) next in
    let same : c.loop-left.left ≡ suc i = omega (arith, c.loop-left-test.true) in
    let means = c.loop-left.invariant.means ∙ ap (λ n. terms_of (drop n cells)) same in
    let h = cell_added (heap_text c.args.self.now) (heap_text c.loop-left.self) (heap_text c.push_cell.new.self) cell cells i c.loop-left.stack.items c.push_cell.new.stack.items c.loop-left.invariant.keeps means opens c.in_ok-push_cell.ensures.added in
    record {
      within = (let w = c.loop-left.invariant.within in omega arith);
      keeps = h.0;
      stand = c.in_ok-push_cell.ensures.added.stand;
      means = h.1;
      grown = grows_twice c.args.self.now c.loop-left.self c.push_cell.new.self c.loop-left.invariant.grown c.in_ok-push_cell.ensures.grown;
    }

pub unreachable-requires : goal.unreachable-requires
unreachable-requires c =
    let none : c.loop-left.left ≡ 0 = omega arith in
    none_missing (heap_text c.loop-left.self) c.args.term.now c.loop-left.stack.items (c.loop-left.invariant.means ∙ ap (λ n. terms_of (drop n (cells_of c.args.term.now))) none) (nil_from_length c.loop-left.stack.items (omega (arith, c.in-None.ensures.cases, c.loop-left.stack.ok.0)))

pub returns-clause-placed : goal.returns-clause-placed
returns-clause-placed c =
    let none : c.loop-left.left ≡ 0 = omega arith in
    placed (heap_text c.args.self.now) (heap_text c.loop-left.self) c.args.term.now c.loop-left.stack.items c.pop.new.self.items c.in-Some.place c.loop-left.invariant.keeps c.loop-left.invariant.stand
    (c.loop-left.invariant.means ∙ ap (λ n. terms_of (drop n (cells_of c.args.term.now))) none) c.in-Some.ensures.items
