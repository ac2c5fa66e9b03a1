use Rattle.std.proofs.Common.{◌≡◌, ◌<◌, sym, ap, subst, arith}
use Rattle.au_term.specs.PrefixOrder.{due_after, AreDue}
use Rattle.au_term.proofs.WholeTermLemmas.{cells_are_due}
use Rattle.text_tests.proofs.terms.missing_behind.Goals as goal

pub push_all-requires-clause-due : goal.push_all-requires-clause-due
push_all-requires-clause-due c =
    let one : due_after 1 c.new-builder.result ≡ 1 = ap (due_after 1) c.new-builder.ensures in
    let some : 0 < due_after 1 c.new-builder.result = omega (arith, one) in
    subst (AreDue (due_after 1 c.new-builder.result)) (sym c.cells.ensures.cells) (cells_are_due _ _ some)
