use Rattle.value_goals.proofs.PartLemmas.{compound_functor}
use Rattle.value_goals.proofs.parts.functor.Goals as goal

pub returns-in-Compound : goal.returns-in-Compound
returns-in-Compound c = compound_functor c.args.store.now c.args.value c.in-Compound.at c.in-Compound.field-1 _ _ c.in-Compound.ensures (c.functor-name.ensures.functor c.in-Compound.field-1 c.in-Compound.ensures.there)
