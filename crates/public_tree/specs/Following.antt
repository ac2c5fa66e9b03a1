-- A public tree whose events are a legal history of a job.
use Rattle.std.specs.Prelude.{◌≡◌, ◌≢◌, ◌⊎◌, ◌≤◌, true, false, List, [], length, None}
use Rattle.run_model.specs.Programs.Jobs.{Job}
use Rattle.tree_model.specs.TreeStates.{TreeState, opening_root}
use Rattle.tree_model.specs.Nodes.{nodes_below}
use Rattle.tree_model.specs.Levels.{Place}
use Rattle.tree_model.specs.Credits.{greatest}
use Rattle.tree_model.specs.Legality.{claimable, resumable}
use Rattle.tree_model.specs.HandOuts.{Never, handed_after}
use Rattle.tree_model.specs.Promises.{KeepsPrefix, EndsRight, tasks_out}
use Rattle.tree_model.specs.Events.{Event}
use Rattle.tree_nodes.specs.TreeTables.{IsTableOf}
use Rattle.tree_model.specs.Histories.{tree_after, IsLegalHistory}
use Rattle.tree_nodes.specs.Bodies.{Reading}
use Rattle.public_tree.specs.PublicTrees.{PublicView, IsPublicOf, Notes, NotesIn, NotesAllIn, IsSameTree, is_going}

-- the tree of a job after the events that were noted
abbrev pub tree_of : Job → PublicView → TreeState
tree_of job p = tree_after job p.budget p.window p.log.events

pub record HistoryFollows (job : Job) (read : Reading) (p : PublicView) : Type 0 where
  pub legal : IsLegalHistory job p.budget p.window p.log.events
  pub stands : IsPublicOf p read (tree_of job p)

-- one event more
abbrev pub EventsFollow : Type 0
EventsFollow = (job : Job) (read : Reading) (old new : PublicView) (e : Event) → HistoryFollows job read old → Notes old new e → HistoryFollows job read new

-- one that may happen in the job's tree
abbrev pub KnownEventsFollow : Type 0
KnownEventsFollow = (job : Job) (read : Reading) (old new : PublicView) (e : Event) → HistoryFollows job read old
    → NotesIn old new e read (tree_of job old) → HistoryFollows job read new

-- several that may happen there one after the other
abbrev pub SeveralFollow : Type 0
SeveralFollow = (job : Job) (read : Reading) (old new : PublicView) (es : List Event) → HistoryFollows job read old
    → NotesAllIn old new es read (tree_of job old) → HistoryFollows job read new

-- or none
abbrev pub NothingFollows : Type 0
NothingFollows = (job : Job) (read : Reading) (old new : PublicView) → HistoryFollows job read old → IsSameTree old new → HistoryFollows job read new

-- a tree that was opened for a job
pub record IsOpened (job : Job) (read : Reading) (p : PublicView) : Type 0 where
  pub placed : IsTableOf p.nodes read (opening_root job.queries)
  pub next : length p.nodes.rows ≡ nodes_below (opening_root job.queries)
  pub lost : p.lost ≡ []
  pub halted : p.halted ≡ None
  pub stopped : p.log.stopped ≡ false
  pub events : p.log.events ≡ []

abbrev pub OpeningFollows : Type 0
OpeningFollows = (job : Job) (read : Reading) (p : PublicView) → IsOpened job read p → HistoryFollows job read p

-- no alternative was claimed twice, or out to two workers
abbrev pub IsOnce : Type 0
IsOnce = (job : Job) (read : Reading) (p : PublicView) (a : Place) → HistoryFollows job read p → handed_after a p.log.events Never ≢ None

-- while the tree goes on and nobody has a task, there is one to take
abbrev pub GoesOn : Type 0
GoesOn = (job : Job) (read : Reading) (p : PublicView) → HistoryFollows job read p → is_going (tree_of job p) ≡ true → tasks_out (tree_of job p) ≡ []
    → claimable (tree_of job p) ≢ None ⊎ resumable (tree_of job p) ≢ None

-- what was written is a front of the sequential text
abbrev pub IsPrefix : Type 0
IsPrefix = (job : Job) (read : Reading) (p : PublicView) → HistoryFollows job read p → p.budget ≤ greatest → KeepsPrefix job p.budget (tree_of job p)

-- a tree that has ended has the sequential text, ending and counts
abbrev pub IsRightEnd : Type 0
IsRightEnd = (job : Job) (read : Reading) (p : PublicView) → HistoryFollows job read p → p.budget ≤ greatest → EndsRight job p.budget (tree_of job p)
