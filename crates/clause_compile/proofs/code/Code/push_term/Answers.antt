use Rattle.std.proofs.Common.{ap, ◌∙◌, subst}
use Rattle.std.specs.Prelude.{IfOk}
use Rattle.au_term.specs.PrefixOrder.{term_of, term_of-cells_of}
use Rattle.clause_compile.specs.Places.{IsPlaced}
use Rattle.clause_compile.proofs.CodeLemmas.{cells_kept}
use Rattle.clause_compile.proofs.code.Code.push_term.Goals as goal

pub push_cells-requires-clause-cells : goal.push_cells-requires-clause-cells
push_cells-requires-clause-cells c = cells_kept c.cells.result.now c.args.term.now c.cells.ensures.cells

pub returns : goal.returns
returns c =
    let is = ap term_of c.cells.ensures.cells ∙ term_of-cells_of c.args.term.now in
    subst (λ t. IfOk c.push_cells.result (IsPlaced c.args.self.now c.push_cells.new.self t)) is c.push_cells.ensures
