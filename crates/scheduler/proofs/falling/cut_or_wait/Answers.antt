use Rattle.std.proofs.Common.{sym, ◌∙◌}
use Rattle.tree_core.specs.Histories.{state_of}
use Rattle.tree_model.specs.EventViews.{place_view}
use Rattle.scheduler.proofs.BackLemmas.{prunes}
use Rattle.scheduler.proofs.falling.cut_or_wait.Goals as goal

pub cut_task-requires-clause-cut : goal.cut_task-requires-clause-cut
cut_task-requires-clause-cut g c =
    c.stops_are_gates.ensures.cuts c.args.height c.args.worker (place_view c.args.at) (state_of c.args.tree.now.history) c.requires.gate

pub returns-in-Taken-clause-back : goal.returns-in-Taken-clause-back
returns-in-Taken-clause-back g c =
    prunes c.args.tree.now.history c.cut_task.new.tree.history c.args.worker (place_view c.args.at) c.requires.going
    (sym c.in-Taken.is ∙ c.in_ok-pruning.ensures.answer) c.in_ok-pruning.ensures.cut
