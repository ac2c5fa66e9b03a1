use Rattle.std.proofs.Common.{map}
use Rattle.public_tree.specs.LostTasks.{task_view}
use Rattle.public_tree.specs.PrunedTasks.{GathersOn}
use Rattle.public_tree.proofs.pruned_tasks.push_tasks.Given as goal

abbrev pub invariant-loop-alternative : goal.invariant-loop-alternative
invariant-loop-alternative l = GathersOn l.nodes l.fn.from.node l.fn.from.alternative l.alternative (map task_view l.fn.lost.items) (map task_view l.lost.items)
