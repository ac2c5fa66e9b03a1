use Rattle.std.proofs.Common.{◌<◌, ◌∙◌, arith}
use Rattle.region_split.proofs.KeyLemmas.{further_there, further_key, if_some_key}
use Rattle.region_split.proofs.candidates.inner_key_of_value.Goals as goal

pub argument-requires : goal.argument-requires
argument-requires c =
    let functor = c.functor-name.ensures.functor c.in-Compound.base c.in-Compound.ensures.there in
    let few : c.args.number < c.functor-name.result.1 = let no = c.if-number-count.false in omega (arith, no) in
    further_there c.args.store.now c.args.value c.in-Compound.at c.in-Compound.base _ _ c.in-Compound.ensures functor c.args.number few

pub returns-clause-key : goal.returns-clause-key
returns-clause-key c =
    let functor = c.functor-name.ensures.functor c.in-Compound.base c.in-Compound.ensures.there in
    let few : c.args.number < c.functor-name.result.1 = let no = c.if-number-count.false in omega (arith, no) in
    let key = further_key c.args.store.now c.args.value c.in-Compound.at c.in-Compound.base _ _ c.in-Compound.ensures functor c.args.number c.argument.result few c.argument.ensures.term in
    if_some_key _ c.key_of_value.result _ (c.key_of_value.ensures.key ∙ key)
