use Rattle.std.proofs.Common.{arith}
use Rattle.au_term.specs.Term.{Term}
use Rattle.au_term.proofs.VariableBoundLemmas.{AreSound-at}
use Rattle.au_model.specs.Terms.Substitutions.{apply}
use Rattle.au_model.specs.Terms.Copies.{seen_in, renamed}
use Rattle.au_model.proofs.CopyLemmas.{copying_begins, cell_due, copying_more, copied_all, copy_done, copy_is}
use Rattle.au_model.proofs.copies.Renaming.copy.Goals as goal

pub loop-cell-init : goal.loop-cell-init
loop-cell-init c = copying_begins c.args.term.now c.args.self c.args.next c.cells-cells.result.now c.new-builder.result c.cells-cells.ensures.cells c.new-builder.ensures

pub cell-requires : goal.cell-requires
cell-requires c = AreSound-at c.cells-cells.result.now c.loop-cell.cell-index c.cell-item.result c.cells-cells.ensures.whole.sound c.loop-cell-test.true c.cell-item.is

pub push-requires-clause-due : goal.push-requires-clause-due
push-requires-clause-due c = cell_due c.args.term.now c.args.self c.args.next c.cells-cells.result.now c.loop-cell.cell-index c.loop-cell.renaming c.loop-cell.builder c.loop-cell.invariant c.loop-cell-test.true

pub loop-cell-preserved : goal.loop-cell-preserved
loop-cell-preserved c =
    copying_more c.args.term.now c.args.self c.args.next c.cells-cells.result.now c.loop-cell.cell-index c.loop-cell.renaming c.loop-cell.builder c.loop-cell.invariant
    c.cell-item.result c.in_ok-cell.field-0 c.cell.new.self c.push.new.self c.loop-cell-test.true c.cell-item.is c.in_ok-cell.ensures.seen c.in_ok-cell.ensures.renamed c.in_ok-push.ensures.ok

pub finish-requires : goal.finish-requires
finish-requires c =
    let u : Term = apply (renamed (seen_in c.args.term.now c.args.self) c.args.next) c.args.term.now in
    copy_done u c.loop-cell.builder (copied_all c.args.term.now c.args.self c.args.next c.cells-cells.result.now c.loop-cell.cell-index c.loop-cell.renaming c.loop-cell.builder c.loop-cell.invariant (omega (arith, c.loop-cell-test.false))).1

pub returns-clause-copy : goal.returns-clause-copy
returns-clause-copy c =
    let u : Term = apply (renamed (seen_in c.args.term.now c.args.self) c.args.next) c.args.term.now in
    copy_is c.finish.result u c.loop-cell.builder c.finish.ensures.cells (copied_all c.args.term.now c.args.self c.args.next c.cells-cells.result.now c.loop-cell.cell-index c.loop-cell.renaming c.loop-cell.builder c.loop-cell.invariant (omega (arith, c.loop-cell-test.false))).1
