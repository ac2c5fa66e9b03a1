use Rattle.task_world.proofs.OutLemmas.{outs_are_tasks_or_ends}
use Rattle.task_world.proofs.task_laws.outs_are_tasks_or_ends.Goals as goal

pub returns : goal.returns
returns c = outs_are_tasks_or_ends c.numbered_trees_are_settled.ensures c.plain_entries_load.ensures
