use Rattle.cell_store.specs.StoreView.{text_in}
use Rattle.value_goals.proofs.ComparisonLemmas.{same_names}
use Rattle.value_goals.proofs.comparison.names.Goals as goal

pub returns-then-a-b : goal.returns-then-a-b
returns-then-a-b c = same_names (text_in c.args.store.now).names c.args.a c.args.b c.if-a-b.true
