use Rattle.std.proofs.Common.{refl}
use Rattle.cell_store.specs.StoreView.{IsDereferenced}
use Rattle.binding_array.specs.declared.cell.BindingCell.TheVariants.{Compound}
use Rattle.region_split.proofs.KeyLemmas.{first_there, compound_numbers}
use Rattle.region_split.proofs.keys.compound_numbers.Goals as goal

pub argument-requires : goal.argument-requires
argument-requires c =
    let own : IsDereferenced c.args.store.now (Compound c.args.at c.args.base) (Compound c.args.at c.args.base) = record { same = refl; unbound = tt; there = c.requires } in
    first_there c.args.store.now (Compound c.args.at c.args.base) c.args.at c.args.base _ _ own (c.functor-name.ensures.functor c.args.base c.requires)

pub returns : goal.returns
returns c =
    let own : IsDereferenced c.args.store.now (Compound c.args.at c.args.base) (Compound c.args.at c.args.base) = record { same = refl; unbound = tt; there = c.requires } in
    compound_numbers c.args.store.now (Compound c.args.at c.args.base) c.args.at c.args.base _ _ own (c.functor-name.ensures.functor c.args.base c.requires)
    c.argument.result c.key_of_value-first.result c.argument.ensures.term c.key_of_value-first.ensures.there c.key_of_value-first.ensures.key
