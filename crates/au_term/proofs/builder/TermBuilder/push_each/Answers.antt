use Rattle.std.proofs.Common.{◌<◌, ap, ◌∙◌, sym, subst, take}
use Rattle.au_term.specs.PrefixOrder.{due_after, IsValidCell}
use Rattle.au_term.proofs.WholeTermLemmas.{due_after-append, AreDue-at}
use Rattle.au_term.proofs.VariableBoundLemmas.{AreSound-at}
use Rattle.au_term.proofs.builder.TermBuilder.push_each.Goals as goal

pub push-requires-clause-due : goal.push-requires-clause-due
push-requires-clause-due c =
    let due = AreDue-at (due_after 1 c.args.self.now) c.args.cells.now c.loop-cell.cell-index c.requires.due c.loop-cell-test.true in
    subst (λ n. 0 < n) (sym (ap (due_after 1) c.loop-cell.invariant ∙ due_after-append 1 c.args.self.now (take c.loop-cell.cell-index c.args.cells.now))) due

pub push-requires-clause-sound : goal.push-requires-clause-sound
push-requires-clause-sound c =
    subst IsValidCell (sym c.in_ok-share.ensures) (AreSound-at c.args.cells.now c.loop-cell.cell-index c.cell-item.result c.requires.sound c.loop-cell-test.true c.cell-item.is)
