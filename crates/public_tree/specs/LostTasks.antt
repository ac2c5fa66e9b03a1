-- Tasks that are out and have been pruned.
use Rattle.std.specs.Prelude.{ℕ, suc, cond, List, [], ◌∷◌, Option, Some, None}
use Rattle.public_tree.specs.declared.lost.LostTask.{LostTask}
use Rattle.tree_model.specs.EventViews.{place_view}
use Rattle.tree_model.specs.Levels.{Place}
use Rattle.tree_model.specs.Pruning.{Task}
use Rattle.tree_model.specs.Legality.{is_task}

abbrev pub task_view : LostTask → Task
task_view l = record { worker = l.worker; at = place_view l.at }

-- the index of the first task of a worker at an alternative, where the first of these has index i
abbrev pub lost_index : ℕ → ℕ → Place → List Task → Option ℕ
lost_index i w a [] = None
lost_index i w a (t ∷ ts) = cond (is_task w a t) (Some i) (lost_index (suc i) w a ts)
