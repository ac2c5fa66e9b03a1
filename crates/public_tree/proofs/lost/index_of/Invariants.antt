use Rattle.std.proofs.Common.{◌≡◌, map, drop}
use Rattle.tree_model.specs.EventViews.{place_view}
use Rattle.public_tree.specs.LostTasks.{task_view, lost_index}
use Rattle.public_tree.proofs.lost.index_of.Given as goal

abbrev pub invariant-loop-i : goal.invariant-loop-i
invariant-loop-i l = lost_index 0 l.worker (place_view l.at) (map task_view l.lost) ≡ lost_index l.i l.worker (place_view l.at) (map task_view (drop l.i l.lost))
