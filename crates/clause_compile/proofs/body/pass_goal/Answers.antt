use Rattle.std.proofs.Common.{◌∙◌, ap, sym, get_or}
use Rattle.au_term.specs.PrefixOrder.{subterm}
use Rattle.au_term.proofs.WholeTermLemmas.{first_cell}
use Rattle.clause_compile.specs.BodyCells.{opens_conjunction}
use Rattle.clause_compile.proofs.GoalPlaceLemmas.{conjunction_sides, passes_conjunction, passes_goal}
use Rattle.clause_compile.proofs.body.pass_goal.Goals as goal

pub returns-then-is_conjunction_cell : goal.returns-then-is_conjunction_cell
returns-then-is_conjunction_cell c =
    let t = c.args.body.now in
    let top = c.index-subterm-0.is ∙ (ap (λ cs. get_or cs 0 c.index-subterm-0.result) c.subterm.ensures.cells ∙ first_cell (subterm c.args.at t) c.index-subterm-0.result) in
    passes_conjunction t c.args.at c.term_end-end.result c.args.places.now.items (record { end = c.term_end-end.ensures.end; rest = c.term_end-end.ensures.rest; within = c.term_end-end.ensures.within })
    (conjunction_sides (subterm c.args.at t) (ap opens_conjunction (sym top) ∙ (sym c.is_conjunction_cell.ensures ∙ c.if-is_conjunction_cell.true)))

pub returns : goal.returns
returns c =
    let t = c.args.body.now in
    let top = c.index-subterm-0.is ∙ (ap (λ cs. get_or cs 0 c.index-subterm-0.result) c.subterm.ensures.cells ∙ first_cell (subterm c.args.at t) c.index-subterm-0.result) in
    passes_goal t c.args.at c.term_end-end.result c.args.places.now.items _ (record { end = c.term_end-end.ensures.end; rest = c.term_end-end.ensures.rest; within = c.term_end-end.ensures.within }) c.requires
    (ap opens_conjunction (sym top) ∙ (sym c.is_conjunction_cell.ensures ∙ c.if-is_conjunction_cell.false)) c.in_ok-push.ensures.items
