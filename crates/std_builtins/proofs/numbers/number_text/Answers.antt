use Rattle.std.proofs.Common.{◌∙◌, sym}
use Rattle.run_model.specs.Goals.ListForms.{list_form}
use Rattle.run_model.specs.Goals.NumberTexts.{number_text}
use Rattle.std_builtins.specs.Meanings.{spelling_meant}
use Rattle.std_builtins.proofs.TextLemmas.{open_number}
use Rattle.std_builtins.proofs.numbers.number_text.Goals as goal

pub returns : goal.returns
returns c =
    open_number c.args.number.now (number_text (spelling_meant c.args.by) c.args.number.now c.args.list.now (list_form c.args.list.now)) c.number_of_form.result (sym c.passes.ensures ∙ c.if-not-passes.false) (c.number_of_form.ensures (list_form c.args.list.now) c.in_ok-form.ensures)
