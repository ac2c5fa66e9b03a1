-- A region that a worker keeps: nothing is left in it but what is bound on the branch of an alternative, from which it can go down to
-- another one (moving from branch to branch as in the SRI model: Warren, 1987).
use Rattle.std.specs.Prelude.{◌≡◌, ◌≤◌, ◌<◌, ℕ, List, length}
use Rattle.au_model.specs.Terms.Each.{Each}
use Rattle.region_split.specs.QueryEnds.{IsEnd}
use Rattle.region_split.specs.Regions.{RegionView}
use Rattle.region_split.specs.Texts.{TextView}
use Rattle.task_region.specs.PlacesUp.{AreAllUp, AreNumbersOf, branching_at}
use Rattle.task_region.specs.TaskLoads.{IsBoundOnBranch}
use Rattle.task_region.specs.TaskStops.{RunsTask}
use Rattle.task_region.specs.TaskViews.{TaskView}
use Rattle.task_region.specs.declared.running.TaskRan.{TaskRan}
use Rattle.tree_model.specs.Levels.{Place}
use Rattle.tree_nodes.specs.Rows.{Rows}
use Rattle.tree_nodes.specs.Staying.{StayMade}

-- the region, the place of the alternative, and the numbers of the nodes on the way down to it, the outermost first
pub record KeptView : Type 0 where
  pub region : RegionView
  pub place : Place
  pub numbers : List ℕ

-- nodes on the way up from a place have these numbers, and what is bound there is what was bound at a moment
pub record IsWayBound (rows : Rows) (places : List Place) (numbers : List ℕ) (r : RegionView) : Type 0 where
  pub numbers_are : AreNumbersOf places numbers
  pub bound : IsBoundOnBranch (branching_at rows places) r.store.now

-- the number of its node has been drawn; where the nodes have a way up from there, it is bound in the region, which has the end of a query
-- for each node on it and no other choice point
pub record IsKeptIn (rows : Rows) (text : TextView) (k : KeptView) : Type 0 where
  pub known : k.place.node < length rows
  pub way : (places : List Place) → AreAllUp rows k.place places → IsWayBound rows places k.numbers k.region
  pub ends : Each (λ c. IsEnd c.alternatives) k.region.choices
  pub many : length k.region.choices ≡ length k.numbers
  pub text_is : k.region.text ≡ text

-- a region was taken back to its floor, over ends of queries alone
pub record IsTakenBack (r : RegionView) (place : Place) (numbers : List ℕ) (k : KeptView) : Type 0 where
  pub place_is : k.place ≡ place
  pub numbers_are : k.numbers ≡ numbers
  pub now : k.region.store.now ≡ r.store.floor
  pub ends : Each (λ c. IsEnd c.alternatives) k.region.choices
  pub many : length k.region.choices ≡ length k.numbers
  pub text : k.region.text ≡ r.text

-- a task goes on over what is bound on the way down to its alternative
pub record IsOnWay (rows : Rows) (a : Place) (text : TextView) (numbers : List ℕ) (t : TaskView) : Type 0 where
  pub places : List Place
  pub up : AreAllUp rows a places
  pub numbers_are : AreNumbersOf places numbers
  pub bound : IsBoundOnBranch (branching_at rows places) t.region.store.floor
  pub text_is : t.region.text ≡ text

-- in a region so much is bound, over no more ends of queries than the branch has nodes
pub record IsBoundBranch (rows : Rows) (a : Place) (text : TextView) (r : RegionView) (numbers : List ℕ) : Type 0 where
  pub places : List Place
  pub up : AreAllUp rows a places
  pub numbers_are : AreNumbersOf places numbers
  pub bound : IsBoundOnBranch (branching_at rows places) r.store.now
  pub ends : Each (λ c. IsEnd c.alternatives) r.choices
  pub few : length r.choices ≤ length numbers
  pub text_is : r.text ≡ text

-- a kept region stays one while rows keep what they are below and what they were made from
abbrev pub KeptRegionsStay : Type 0
KeptRegionsStay = (old new : Rows) (text : TextView) (k : KeptView) → StayMade old new → IsKeptIn old text k → IsKeptIn new text k

-- and so does a task that runs
abbrev pub TasksStayOnWays : Type 0
TasksStayOnWays = (rows : Rows) (a : Place) (text : TextView) (numbers : List ℕ) (old new : TaskView) (limit : ℕ) (ran : TaskRan)
    → IsOnWay rows a text numbers old → RunsTask old new limit ran → IsOnWay rows a text numbers new

-- of a task's region that is taken back to where the task began, where the number of the node has been drawn
abbrev pub TasksLeaveKept : Type 0
TasksLeaveKept = (rows : Rows) (a : Place) (text : TextView) (numbers : List ℕ) (t : TaskView) (r : RegionView) (k : KeptView) → a.node < length rows
    → IsOnWay rows a text numbers t → r.store.floor ≡ t.region.store.floor → r.text ≡ t.region.text → IsTakenBack r a numbers k → IsKeptIn rows text k
