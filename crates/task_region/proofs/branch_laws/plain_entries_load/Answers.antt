use Rattle.task_region.proofs.LoadableLemmas.{plain_entries_load}
use Rattle.task_region.proofs.branch_laws.plain_entries_load.Goals as goal

pub returns : goal.returns
returns c = plain_entries_load c.numbered_trees_are_settled.ensures
