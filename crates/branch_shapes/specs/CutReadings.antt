-- What a cut to a node of the branch leaves, as a node of one branch.
use Rattle.std.specs.Prelude.{◌≡◌, ℕ, true, Option, Some}
use Rattle.run_model.specs.Machine.Entries.{PlainEntry}
use Rattle.run_model.specs.Machine.Items.{Continuation}
use Rattle.run_model.specs.Programs.Jobs.{Job}
use Rattle.tree_model.specs.Legality.{gate_of, taken_at}
use Rattle.tree_model.specs.Levels.{Place, Spot, levels_of}
use Rattle.tree_model.specs.Nodes.{CutGate}
use Rattle.tree_model.specs.TreeStates.{TreeState}
use Rattle.tree_nodes.specs.Bodies.{Body, Branching}
use Rattle.tree_nodes.specs.Rows.{Rows}
use Rattle.tree_nodes.specs.TreeTables.{IsWayTo}
use Rattle.au_model.specs.Terms.Each.{Each}
use Rattle.branch_reading.specs.BranchSegments.{next_number, segments_on}
use Rattle.branch_reading.specs.Readings.{items_meant, reading}
use Rattle.branch_reading.specs.SettledWays.{is_way_settled, items_on}
use Rattle.branch_shapes.specs.FloorItems.{NamesLevels}
use Rattle.public_tree.specs.PublicPruning.{CutsAs}
use Rattle.branch_shapes.specs.RestBodies.{IsRestBody, items_behind}

-- a plain alternative reads as its branch, which is settled, and whose items name nodes of it, as in the tree of every legal history
pub record IsPlainOn (job : Job) (s : Spot) (way : Branching) : Type 0 where
  pub reads : s.entry ≡ reading job way
  pub settled : is_way_settled way ≡ true
  pub plain : (f : Continuation ℕ) × (s.entry ≡ PlainEntry f)
  pub scoped : Each (NamesLevels (levels_of s)) (items_meant (items_on way))

-- and is at the gate of a cut to this node
pub record IsAtCut (job : Job) (n : ℕ) (t : TreeState) (s : Spot) (way : Branching) : Type 0 where
  pub on : IsPlainOn job s way
  pub gate : gate_of t s ≡ Some (CutGate n)

-- a body of what is left behind its first goal reads as what the cut leaves
abbrev pub CutsAreRead : Type 0
CutsAreRead = (job : Job) (rows : Rows) (n : ℕ) (body : Body) (w : ℕ) (a : Place) (t : TreeState)
    → ((s : Spot) (way : Branching) → taken_at w a t ≡ Some s → IsWayTo rows (levels_of s) way
    → IsAtCut job n t s way × IsRestBody (items_behind (items_on way)) (next_number (segments_on way)) body)
    → ((s : Spot) → taken_at w a t ≡ Some s → (way : Branching) × IsWayTo rows (levels_of s) way)
    → CutsAs rows n body w a (reading job) t
