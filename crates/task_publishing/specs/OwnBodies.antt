-- Bodies of nodes for the own entries that a task's region has left.
use Rattle.std.specs.Prelude.{◌≡◌, ℕ, ◌+◌, ◌≤◌, true, List, ◌∷◌, length, map, slice_get, Some}
use Rattle.au_model.specs.Terms.Each.{Each}
use Rattle.au_model.specs.Terms.Named.{NamedTerm}
use Rattle.au_model.specs.Terms.Substitutions.{Substitution}
use Rattle.run_model.specs.Laws.Numbering.{IsNamedBelow}
use Rattle.run_model.specs.Machine.Entries.{Entry}
use Rattle.run_model.specs.Programs.Jobs.{Job}
use Rattle.clause_compile.specs.declared.event.Branch.{Branch}
use Rattle.clause_compile.specs.declared.item.Item.{Item as BranchItem}
use Rattle.region_split.specs.QueryEnds.{AreEndsAtFloor, AreEndsOldest}
use Rattle.region_split.specs.Regions.{RegionView}
use Rattle.region_split.specs.declared.frame.Position.{Position}
use Rattle.region_capture.specs.CapturedRegions.{CapturesRegion}
use Rattle.region_capture.specs.declared.captured.Captured.{Captured}
use Rattle.tree_model.specs.Levels.{Level, Place, plug, place_at}
use Rattle.tree_model.specs.Nodes.{Status}
use Rattle.tree_nodes.specs.Bodies.{Body, Branching, Reading}
use Rattle.tree_nodes.specs.Rows.{StoredNode, Rows, row_of_node}
use Rattle.tree_nodes.specs.TreeTables.{NodesView, IsTableOf, IsWayTo}
use Rattle.branch_reading.specs.BranchSegments.{segments_on, next_number}
use Rattle.branch_reading.specs.Readings.{items_meant, named_of, query_on}
use Rattle.branch_reading.specs.SettledWays.{items_on, is_way_settled}
use Rattle.task_region.specs.TaskLoads.{IsBoundOnBranch}
use Rattle.branch_shapes.specs.FloorItems.{NamesLevels, items_over_floor}
use Rattle.branch_shapes.specs.Groups.{Groups, stacked}
use Rattle.branch_shapes.specs.MeantRuns.{MeanRun, placement_at}
use Rattle.region_floor.specs.BareFloors.{AreOwn, bare_stack}
use Rattle.region_floor.specs.Deferred.{joined_entry}
use Rattle.task_region.specs.TaskViews.{TaskView, task_stack}
use Rattle.task_publishing.specs.OwnEntries.{deferred_over, IsOverEnds}

-- a task stands for own entries over the bare floor of levels, and defers these items
pub record HasOwn (levels : List Level) (named : List NamedTerm) (items : List BranchItem) (t : TaskView) (own : List Entry) : Type 0 where
  pub floor : length levels ≡ t.floor
  pub deferred : t.deferred ≡ items_over_floor levels (items_meant items)
  pub are_own : AreOwn (length levels) own
  pub entries : task_stack named t ≡ bare_stack levels own

-- it stands for some
pub record HasSomeOwn (t : TaskView) : Type 0 where
  pub some : 1 ≤ t.floor
  pub levels : List Level
  pub named : List NamedTerm
  pub items : List BranchItem
  pub own : List Entry
  pub has : HasOwn levels named items t own

-- its region was taken off above its floor, where the region that is left has the same one
pub record IsTakenOffTask (t : TaskView) (left : RegionView) (c : Captured) : Type 0 where
  pub position : Position
  pub next : t.next ≡ Some position
  pub captures : CapturesRegion t.region left t.floor position c
  pub floor : IsOverEnds t.floor t.region
  pub ends : AreEndsOldest t.region.choices
  pub at_floor : AreEndsAtFloor t.region.store.floor t.region.choices t.region.store.marks
  pub marks : length t.region.store.marks ≡ length t.region.choices
  pub same_floor : left.store.floor ≡ t.region.store.floor

-- the branch of an alternative is settled, its items name nodes of it, and its query's named variables are below its next number, as in
-- the tree of every legal history
pub record CanBePublished (job : Job) (levels : List Level) (way : Branching) : Type 0 where
  pub settled : is_way_settled way ≡ true
  pub named : Each (IsNamedBelow (next_number (segments_on way))) (named_of (query_on job way))
  pub scoped : Each (NamesLevels levels) (items_meant (items_on way))

-- a branch of a node has these goals, and this next variable number
pub record IsBranchAt (rows : Rows) (a : Place) (goals : List BranchItem) (base : ℕ) : Type 0 where
  pub row : StoredNode
  pub is : row_of_node rows a.node ≡ Some row
  pub branch : Branch
  pub there : slice_get row.body.branches a.index ≡ Some branch
  pub goals_are : goals ≡ branch.goals
  pub base_is : base ≡ branch.segment.base + branch.segment.vars

-- bodies mean own entries below a branch on which this is bound, as nodes with numbers from one on
pub record MeanOwn (job : Job) (number : ℕ) (levels : List Level) (way : Branching) (before : Substitution) (bodies : List Body) (own : List Entry) : Type 0 where
  pub current : Entry
  pub groups : Groups
  pub entries : map (joined_entry (deferred_over levels (named_of (query_on job way)) (items_on way))) own ≡ current ∷ stacked groups
  pub means : MeanRun (placement_at job way number levels groups) (next_number (segments_on way)) before bodies current

-- they do where the floor of the task's store is what is bound on the branch
abbrev pub MeanFromStart : Job → ℕ → List Level → Branching → TaskView → List Body → List Entry → Type 0
MeanFromStart job number levels way t bodies own =
    IsBoundOnBranch way t.region.store.floor → MeanOwn job number levels way t.region.store.floor.bound bodies own

-- of each tree for which the nodes stand, bodies mean the own entries for which a task stands, whatever the job is
abbrev pub MeanTask : NodesView → Place → TaskView → List Body → Type 0
MeanTask nodes a t bodies =
    (job : Job) (read : Reading) (v : Level) (up : List Level) (was : Status) (way : Branching) (own : List Entry) → place_at v ≡ a
    → IsTableOf nodes read (plug (v ∷ up) was) → IsWayTo nodes.rows (v ∷ up) way → CanBePublished job (v ∷ up) way
    → HasOwn (v ∷ up) (named_of (query_on job way)) (items_on way) t own
    → MeanFromStart job (length nodes.rows) (v ∷ up) way t bodies own

-- bodies mean what the task of an alternative has left, and of its region that is left which can be taken back to where it began
pub record LeavesBodies (nodes : NodesView) (a : Place) (t : TaskView) (bodies : List Body) (left : RegionView) : Type 0 where
  pub mean : MeanTask nodes a t bodies
  pub floor : left.store.floor ≡ t.region.store.floor
  pub text : left.text ≡ t.region.text
