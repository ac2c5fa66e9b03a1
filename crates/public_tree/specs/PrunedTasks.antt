-- How the tasks that a cut or a ball takes away are gathered: by a walk to the right, on each level of a branch from the
-- innermost one up.
use Rattle.std.specs.Prelude.{◌≡◌, ℕ, zero, suc, ◌+◌, ◌-◌, ◌<◌, ◌≤◌, List, [], ◌∷◌, ◌++◌, length, Option, Some, None}
use Rattle.tree_model.specs.Nodes.{Kind, Numbered, Alternatives, none, Status, Inner, nodes_among}
use Rattle.tree_model.specs.Levels.{Level, put_left, plug, Place, place_at}
use Rattle.tree_model.specs.Pruning.{Task, task_at, tasks_among, tasks_pruned}
use Rattle.tree_nodes.specs.Bodies.{Reading}
use Rattle.tree_nodes.specs.Rows.{AlternativeCell, PendingCell, InnerCell, ClosedCell}
use Rattle.tree_nodes.specs.TreeTables.{NodesView, IsTableOf}
use Rattle.branch_order.specs.Sought.{nodes_right}
use Rattle.prune_ops.specs.Prunes.{within_scope}

-- the tasks that are pruned with a place have been added
abbrev pub FindsTasks : NodesView → Place → ℕ → List Task → List Task → Type 0
FindsTasks nodes a scope before after =
    (read : Reading) (v : Level) (up : List Level) (was : Status) → place_at v ≡ a → IsTableOf nodes read (plug (v ∷ up) was)
    → after ≡ before ++ tasks_pruned scope (v ∷ up)

-- the task that is out at a place
abbrev pub cell_tasks : Place → AlternativeCell → List Task
cell_tasks a (PendingCell hold) = task_at hold a.node a.index
cell_tasks a (InnerCell n) = []
cell_tasks a (ClosedCell credit) = []

abbrev pub tasks_here : Place → Option (ℕ × AlternativeCell) → List Task
tasks_here a None = []
tasks_here a (Some c) = cell_tasks a c.1

-- what is out to the right on these levels: on so many below the branch, and then on the branch below the scope
abbrev pub tasks_from : ℕ → ℕ → List Level → List Task
tasks_from zero scope up = tasks_pruned scope up
tasks_from (suc depth) scope [] = []
tasks_from (suc depth) scope (u ∷ up) = tasks_among u.number (suc (length u.left)) u.right ++ tasks_from depth scope up

-- a walk is at an alternative of a node: what has been found, what is there and further right make all, and at most so
-- many nodes are ahead
pub record IsGathering (root : Status) (n i depth scope most : ℕ) (found all : List Task) : Type 0 where
  pub up : List Level
  pub kind : Kind
  pub left : List (ℕ × Status)
  pub right : Alternatives
  pub same : root ≡ plug up (Inner (Numbered n kind (put_left left right)))
  pub index : length left ≡ i
  pub tasks : all ≡ found ++ (tasks_among n i right ++ tasks_from depth scope up)
  pub nodes : nodes_among right + nodes_right up ≤ most

-- it has passed all alternatives of a node
pub record HasPassed (root : Status) (n depth scope most : ℕ) (found all : List Task) : Type 0 where
  pub up : List Level
  pub kind : Kind
  pub left : List (ℕ × Status)
  pub same : root ≡ plug up (Inner (Numbered n kind (put_left left none)))
  pub tasks : all ≡ found ++ tasks_from depth scope up
  pub nodes : nodes_right up ≤ most

-- from a place
abbrev pub GathersTo : NodesView → Place → ℕ → List Task → ℕ → ℕ → ℕ → ℕ → List Task → Type 0
GathersTo nodes a scope before n i depth most found =
    (read : Reading) (v : Level) (up : List Level) (was : Status) → place_at v ≡ a → IsTableOf nodes read (plug (v ∷ up) was)
    → IsGathering (plug (v ∷ up) was) n i depth scope most found (before ++ tasks_pruned scope (v ∷ up))

-- along the alternatives of a node
abbrev pub GathersOn : NodesView → ℕ → ℕ → ℕ → List Task → List Task → Type 0
GathersOn nodes n i j old new =
    (read : Reading) (root : Status) (depth scope most : ℕ) (all : List Task) → IsTableOf nodes read root
    → IsGathering root n i depth scope most old all → IsGathering root n j depth scope most new all

-- to the next node below one, or past them all
abbrev pub TurnsTo : NodesView → ℕ → ℕ → List Task → List Task → Option ℕ → Type 0
TurnsTo nodes n i old new (Some m) =
    (read : Reading) (root : Status) (depth scope most : ℕ) (all : List Task) → IsTableOf nodes read root
    → IsGathering root n i depth scope most old all → (0 < most) × IsGathering root m 0 (suc depth) scope (most - 1) new all
TurnsTo nodes n i old new None =
    (read : Reading) (root : Status) (depth scope most : ℕ) (all : List Task) → IsTableOf nodes read root
    → IsGathering root n i depth scope most old all → HasPassed root n depth scope most new all

-- the place above a node at which to go on
abbrev pub going_up : ℕ → ℕ → Option Place → Option Place
going_up zero scope above = within_scope scope above
going_up (suc depth) scope above = above
