use Rattle.std.proofs.Common.{◌∙◌, sym}
use Rattle.run_model.specs.Goals.ListForms.{list_form}
use Rattle.std_builtins.proofs.PartLemmas.{parts_built, parts_taken}
use Rattle.std_builtins.proofs.parts.parts.Goals as goal

pub returns-in-Var : goal.returns-in-Var
returns-in-Var c = parts_built c.args.term.now c.args.list.now c.in-Var.field-0 c.built_from.result (sym c.top.ensures ∙ c.in-Var.is) (c.built_from.ensures (list_form c.args.list.now) c.in_ok-form.ensures)

pub returns-in_default : goal.returns-in_default
returns-in_default c = parts_taken c.args.term.now c.args.list.now c.taken_apart.result (λ n e. c.in_default.not-Var n (c.top.ensures ∙ e)) (c.taken_apart.ensures (list_form c.args.list.now) c.in_ok-form.ensures)
