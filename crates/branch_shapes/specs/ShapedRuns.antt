-- A private run whose entries choice points stand for, and the bodies that are made of these.
use Rattle.std.specs.Prelude.{◌≡◌, ℕ, List, ◌∷◌, Some}
use Rattle.au_model.specs.Terms.Substitutions.{Substitution}
use Rattle.clause_compile.specs.declared.event.Branch.{Branch}
use Rattle.run_model.specs.Machine.Entries.{Entry}
use Rattle.run_model.specs.Programs.Jobs.{Job}
use Rattle.tree_model.specs.Legality.{taken_at, run_of}
use Rattle.tree_model.specs.Levels.{Place, Spot, levels_of}
use Rattle.tree_model.specs.TreeStates.{TreeState}
use Rattle.tree_nodes.specs.Bodies.{Body, Branching}
use Rattle.tree_nodes.specs.Rows.{Rows}
use Rattle.tree_nodes.specs.TreeTables.{IsWayTo}
use Rattle.branch_reading.specs.BranchSegments.{segments_on, next_number}
use Rattle.branch_reading.specs.Readings.{reading}
use Rattle.public_tree.specs.Publishing.{RunReadsAs}
use Rattle.branch_shapes.specs.Groups.{Groups, stacked}
use Rattle.branch_shapes.specs.ExtendedWays.{WayBinds}
use Rattle.branch_shapes.specs.MeantRuns.{placement_at}
use Rattle.branch_shapes.specs.ShapedBodies.{LeftChoice, ChoicesStand, shaped_bodies}

-- after so many inferences
pub record RunIsShaped (job : Job) (rows : Rows) (bodies : List Body) (k : ℕ) (t : TreeState) (s : Spot) : Type 0 where
  pub current : Entry
  pub groups : Groups
  pub run : run_of t s k ≡ Some (current ∷ stacked groups)
  pub way : Branching
  pub path : IsWayTo rows (levels_of s) way
  pub before : Substitution
  pub binds : WayBinds way before
  pub choices : List LeftChoice
  pub branch : Branch
  pub stand : let p = placement_at job way t.next (levels_of s) groups in ChoicesStand p before (next_number (segments_on way)) choices groups branch current
  pub made : bodies ≡ shaped_bodies (next_number (segments_on way)) choices branch

-- they can be published
abbrev pub ShapedRunsRead : Type 0
ShapedRunsRead = (job : Job) (rows : Rows) (bodies : List Body) (w : ℕ) (a : Place) (k : ℕ) (t : TreeState)
    → ((s : Spot) → taken_at w a t ≡ Some s → RunIsShaped job rows bodies k t s) → RunReadsAs rows bodies w a k (reading job) t
