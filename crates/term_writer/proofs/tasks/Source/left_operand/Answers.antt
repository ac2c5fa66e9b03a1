use Rattle.std.proofs.Common.{◌+◌, ap, ◌∙◌, subst}
use Rattle.au_model.specs.Writing.WrittenTerms.{enclosed, pieces}
use Rattle.op_table.specs.OperatorView.{operator_meant}
use Rattle.std.specs.Prelude.{OnOk}
use Rattle.term_writer.specs.NotationView.{cell_enclosed_left}
use Rattle.term_writer.specs.WritingSources.{notation_of_source, source_subterm, PushesTasks}
use Rattle.term_writer.specs.WritingTasks.{term_weight}
use Rattle.term_writer.proofs.TaskLemmas.{enclosed_left_by_cell}
use Rattle.term_writer.proofs.tasks.Source.left_operand.Goals as goal

pub returns : goal.returns
returns c =
    let n = notation_of_source c.args.self in
    let u = source_subterm c.args.self c.args.at in
    let same = c.is_enclosed_left-is_enclosed.ensures ∙ (ap (cell_enclosed_left n (operator_meant c.args.operator)) c.cell.ensures.top ∙ enclosed_left_by_cell n (operator_meant c.args.operator) u) in
    subst (λ b. OnOk c.part.result (PushesTasks c.args.self c.args.due.now.items c.part.new.due.items (enclosed b (pieces n u)) (2 + term_weight u))) same c.part.ensures
