-- Bodies that can be published: the goals of their branches are those of the entries to which a private run has come.
use Rattle.std.specs.Prelude.{◌≡◌, ℕ, List, ◌∷◌, Some}
use Rattle.au_model.specs.Terms.Substitutions.{Substitution}
use Rattle.run_model.specs.Machine.Entries.{Entry}
use Rattle.run_model.specs.Programs.Jobs.{Job}
use Rattle.tree_model.specs.Legality.{taken_at, run_of}
use Rattle.tree_model.specs.Levels.{Level, Place, Spot, levels_of}
use Rattle.tree_model.specs.TreeStates.{TreeState}
use Rattle.tree_nodes.specs.Bodies.{Body, Branching}
use Rattle.tree_nodes.specs.Rows.{Rows}
use Rattle.tree_nodes.specs.TreeTables.{IsWayTo}
use Rattle.branch_reading.specs.BranchSegments.{segments_on, next_number}
use Rattle.branch_reading.specs.Readings.{query_on, named_of, reading}
use Rattle.public_tree.specs.Publishing.{AreWhole, RunReadsAs, body_sizes}
use Rattle.branch_shapes.specs.Groups.{Groups, stacked, node_groups, node_sizes}
use Rattle.branch_shapes.specs.GroupLaws.{CanBeNodes}
use Rattle.branch_shapes.specs.ExtendedWays.{WayBinds}
use Rattle.branch_shapes.specs.ShownBodies.{AllShow, ShowRun}
use Rattle.branch_shapes.specs.MeantBranches.{Placement, floor_in, BranchMeans}

-- bodies for groups, below a branch on which these bindings were made of variables below a number, the first branch of the innermost one
-- for the entry on top
abbrev pub MeanRun : Placement → ℕ → Substitution → List Body → Entry → Type 0
MeanRun p next before bodies current = AllShow (BranchMeans p) current next before bodies (node_groups p.groups)

-- below a way to levels, as nodes with numbers from one on
abbrev pub placement_at : Job → Branching → ℕ → List Level → Groups → Placement
placement_at job way number levels gs = record { groups = gs; levels = levels; number = number; named = named_of (query_on job way) }

-- they show the run
abbrev pub MeantRunsShow : Type 0
MeantRunsShow = (job : Job) (way : Branching) (before : Substitution) (number : ℕ) (levels : List Level) (bodies : List Body) (current : Entry) (gs : Groups)
    → MeanRun (placement_at job way number levels gs) (next_number (segments_on way)) before bodies current
    → ShowRun job way before number levels bodies current gs

-- the entries can become nodes of their sizes, and they are whole
abbrev pub MeantRunsFit : Type 0
MeantRunsFit = (p : Placement) (next : ℕ) (before : Substitution) (bodies : List Body) (current : Entry) → MeanRun p next before bodies current
    → CanBeNodes (floor_in p) current p.groups × (body_sizes bodies ≡ node_sizes p.groups) × AreWhole bodies

-- after so many inferences a run has come to entries in groups, which bodies mean below its branch
pub record RunIsMeant (job : Job) (rows : Rows) (bodies : List Body) (k : ℕ) (t : TreeState) (s : Spot) : Type 0 where
  pub current : Entry
  pub groups : Groups
  pub run : run_of t s k ≡ Some (current ∷ stacked groups)
  pub way : Branching
  pub path : IsWayTo rows (levels_of s) way
  pub before : Substitution
  pub binds : WayBinds way before
  pub means : MeanRun (placement_at job way t.next (levels_of s) groups) (next_number (segments_on way)) before bodies current

-- so they can be published
abbrev pub MeantRunsRead : Type 0
MeantRunsRead = (job : Job) (rows : Rows) (bodies : List Body) (w : ℕ) (a : Place) (k : ℕ) (t : TreeState)
    → ((s : Spot) → taken_at w a t ≡ Some s → RunIsMeant job rows bodies k t s) → RunReadsAs rows bodies w a k (reading job) t
