use Rattle.tree_model.specs.EventViews.{place_view}
use Rattle.tree_closing.proofs.ChangeLemmas.{first_stays}
use Rattle.tree_closing.proofs.change.close_sleeper.Goals as goal

pub returns-clause-there : goal.returns-clause-there
returns-clause-there c = first_stays c.args.nodes.now c.set.new.self (place_view c.args.end) c.live-live.ensures.sound c.requires.sleeper 0 _ c.set.ensures.set
