use Rattle.branch_shapes.proofs.GroupScopeLemmas.{groups_stack_up, heights_count_entries}
use Rattle.branch_shapes.proofs.laws.groups_stack_up.Goals as goal

pub returns : goal.returns
returns c = record { stack = groups_stack_up; heights = heights_count_entries }
