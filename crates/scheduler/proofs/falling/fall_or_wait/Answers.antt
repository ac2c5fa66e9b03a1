use Rattle.std.proofs.Common.{sym, ◌∙◌}
use Rattle.tree_model.specs.EventViews.{place_view}
use Rattle.scheduler.proofs.BackLemmas.{prunes}
use Rattle.scheduler.proofs.falling.fall_or_wait.Goals as goal

pub returns-in-Taken-clause-back : goal.returns-in-Taken-clause-back
returns-in-Taken-clause-back g c =
    prunes c.args.tree.now.history c.fall_task.new.tree.history c.args.worker (place_view c.args.at) c.requires.going
    (sym c.in-Taken.is ∙ c.in_ok-pruning.ensures.answer) c.in_ok-pruning.ensures.fallen
