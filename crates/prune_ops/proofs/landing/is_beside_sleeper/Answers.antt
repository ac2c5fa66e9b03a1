use Rattle.tree_model.specs.EventViews.{place_view}
use Rattle.prune_ops.proofs.FallLemmas.{no_sleeper}
use Rattle.prune_ops.proofs.landing.is_beside_sleeper.Goals as goal

pub returns-then-at-eq0-clause-none : goal.returns-then-at-eq0-clause-none
returns-then-at-eq0-clause-none c = no_sleeper c.args.nodes.now (place_view c.args.at) c.is_asleep.result c.is_asleep.ensures
