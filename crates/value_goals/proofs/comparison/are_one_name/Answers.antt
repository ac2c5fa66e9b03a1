use Rattle.cell_store.specs.StoreView.{text_in}
use Rattle.value_goals.proofs.ComparisonLemmas.{one_name}
use Rattle.value_goals.proofs.comparison.are_one_name.Goals as goal

pub returns : goal.returns
returns c = one_name (text_in c.args.store.now).names c.args.a c.args.b c.next-next.ensures.sound.distinct c.requires.left c.requires.right
