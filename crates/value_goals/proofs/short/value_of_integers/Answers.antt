use Rattle.value_goals.proofs.ShortLemmas.{wide_has_none}
use Rattle.value_goals.proofs.short.value_of_integers.Goals as goal

pub returns : goal.returns
returns c =
    let functor = c.functor-name.ensures.functor c.args.base c.requires in
    wide_has_none c.args.store.now c.args.at c.args.base c.functor-name.result.0 c.functor-name.result.1 functor c.if-count-eq1.false c.if-count-eq2.false
