use Rattle.region_control.proofs.FormLemmas.{same_form}
use Rattle.region_control.proofs.forms.form_of.Goals as goal
use Rattle.binding_array.specs.declared.cell.BindingCell.TheVariants.{Compound}

pub returns-in-Compound : goal.returns-in-Compound
returns-in-Compound c = same_form c.args.store.now (Compound c.in-Compound.at c.in-Compound.base) c.args.value c.compound_form.result c.in-Compound.ensures.same c.compound_form.ensures
