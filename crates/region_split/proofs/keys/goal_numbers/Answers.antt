use Rattle.std.proofs.Common.{subst}
use Rattle.cell_store.specs.StoreView.{text_in}
use Rattle.clause_index.specs.HeadKeys.{IsHeadKeyOf}
use Rattle.region_split.proofs.keys.goal_numbers.Goals as goal

pub returns-in-Compound : goal.returns-in-Compound
returns-in-Compound c = subst (λ t. IsHeadKeyOf (text_in c.args.store.now).names t c.compound_numbers.result) c.in-Compound.ensures.same c.compound_numbers.ensures
