use Rattle.region_split.proofs.KeyLemmas.{compound_key}
use Rattle.region_split.proofs.keys.key_of_value.Goals as goal

pub returns-in-Compound-clause-key : goal.returns-in-Compound-clause-key
returns-in-Compound-clause-key c = compound_key c.args.store.now c.args.value c.in-Compound.at c.in-Compound.field-1 _ _ c.in-Compound.ensures (c.functor-name.ensures.functor c.in-Compound.field-1 c.in-Compound.ensures.there)
