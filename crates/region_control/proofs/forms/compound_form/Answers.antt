use Rattle.std.proofs.Common.{refl}
use Rattle.binding_array.specs.declared.cell.BindingCell.TheVariants.{Compound}
use Rattle.cell_store.specs.StoreView.{IsDereferenced}
use Rattle.region_control.proofs.FormLemmas.{compound_form}
use Rattle.region_control.proofs.forms.compound_form.Goals as goal

pub returns : goal.returns
returns c =
    let own : IsDereferenced c.args.store.now (Compound c.args.at c.args.base) (Compound c.args.at c.args.base) = record { same = refl; unbound = tt; there = c.requires } in
    compound_form c.args.store.now (Compound c.args.at c.args.base) c.args.at c.args.base _ _ c.arguments_of-arguments.result own (c.functor-name.ensures.functor c.args.base c.requires) c.functor-name.ensures.short c.arguments_of-arguments.ensures
