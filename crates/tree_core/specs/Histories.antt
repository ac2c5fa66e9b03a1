-- The tree of a job after its history.
use Rattle.std.specs.Prelude.{◌≡◌, ◌≤◌, ℕ, cond, List, [], ◌∷◌, ◌++◌, length}
use Rattle.run_model.specs.Programs.Jobs.{Job}
use Rattle.tree_model.specs.Credits.{greatest}
use Rattle.tree_model.specs.Events.{Event}
use Rattle.tree_model.specs.TreeStates.{TreeState}
use Rattle.tree_model.specs.Histories.{tree_after}
use Rattle.tree_nodes.specs.TreeTables.{NodesView, IsTableOf}
use Rattle.branch_reading.specs.Readings.{reading}
use Rattle.public_tree.specs.PublicTrees.{PublicView, is_going}
use Rattle.public_tree.specs.Following.{HistoryFollows}
use Rattle.tree_core.specs.TasksOut.{out_after}

-- with what a tree was opened, and the events since
pub record History : Type 0 where
  pub job : Job
  pub budget : ℕ
  pub window : ℕ
  pub events : List Event

-- the tree of the definition after them
abbrev pub state_of : History → TreeState
state_of h = tree_after h.job h.budget h.window h.events

abbrev pub with_event : Event → History → History
with_event e h = record h { events = h.events ++ e ∷ [] }

abbrev pub with_events : List Event → History → History
with_events es h = record h { events = h.events ++ es }

-- with an event where the tree has neither ended nor been stopped
abbrev pub while_going : Event → History → History
while_going e h = cond (is_going (state_of h)) (with_event e h) h

-- what contracts see of a tree
pub record TreeView : Type 0 where
  pub history : History
  -- what its branches are read from
  pub nodes : NodesView

abbrev pub history_of : Job → PublicView → History
history_of job p = record { job = job; budget = p.budget; window = p.window; events = p.log.events }

abbrev pub tree_view : Job → PublicView → TreeView
tree_view job p = record { history = history_of job p; nodes = p.nodes }

-- a public tree that stands for a job's tree after a legal history, with room for what is out to come back
pub record IsTreeOf (job : Job) (p : PublicView) : Type 0 where
  pub follows : HistoryFollows job (reading job) p
  pub countable : p.budget ≤ greatest
  pub room : length (out_after p.log.events []) ≤ p.log.promised

-- the nodes are those of the tree, and the next one gets its next number
pub record NodesStand (v : TreeView) : Type 0 where
  pub placed : IsTableOf v.nodes (reading v.history.job) (state_of v.history).root
  pub next : length v.nodes.rows ≡ (state_of v.history).next
