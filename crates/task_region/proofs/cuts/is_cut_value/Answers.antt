use Rattle.std.proofs.Common.{sym, ◌∙◌}
use Rattle.cell_store.specs.StoreView.{meaning}
use Rattle.task_region.proofs.CutGoalLemmas.{no_call_cuts, arguments_no_cut, cut_told}
use Rattle.task_region.proofs.cuts.is_cut_value.Goals as goal

pub returns-in_default : goal.returns-in_default
returns-in_default c = no_call_cuts (meaning c.args.store.now c.args.value) c.in_default.ensures

pub returns-then-form-ne0 : goal.returns-then-form-ne0
returns-then-form-ne0 c =
    arguments_no_cut (meaning c.args.store.now c.args.value) c.in-Some.form.arguments.count c.in-Some.ensures.count c.if-form-ne0.true

pub returns : goal.returns
returns c =
    cut_told (meaning c.args.store.now c.args.value) c.name.result.now c.in-Some.form.arguments.count c.is_text.result c.in-Some.ensures.callable (c.in-Some.ensures.name ∙ sym c.name.ensures) c.in-Some.ensures.count c.if-form-ne0.false c.is_text.ensures
