-- How a node and all that is below it go, from the right.
use Rattle.std.specs.Prelude.{◌≡◌, ◌≢◌, ℕ, ◌+◌, ◌-◌, ◌<◌, ◌≤◌, ◌==◌, cond, [], ◌∷◌, length, Option, Some, None}
use Rattle.tree_model.specs.Nodes.{Node, nodes_in}
use Rattle.tree_model.specs.Levels.{Place}
use Rattle.tree_model.specs.SoundTrees.{count_in}
use Rattle.tree_nodes.specs.declared.row.Shortened.{Shortened}
use Rattle.tree_nodes.specs.declared.row.Shortened.TheVariants as shortened
use Rattle.tree_nodes.specs.Bodies.{Branching, Reading}
use Rattle.tree_nodes.specs.Rows.{StoredNode, Rows, row_of_node}
use Rattle.tree_nodes.specs.RowViews.{IsShortened}
use Rattle.tree_nodes.specs.TreeTables.{node_number, IsNodeIn}

-- rows, and their alternatives
abbrev pub row_weight : Option StoredNode → ℕ
row_weight None = 0
row_weight (Some r) = 1 + length r.cells

abbrev pub drop_weight : Rows → ℕ
drop_weight [] = 0
drop_weight (r ∷ rows) = row_weight r + drop_weight rows

pub record IsShortenedAt (rows new : Rows) (n : ℕ) (s : Shortened) : Type 0 where
  pub here : IsShortened (row_of_node rows n) (row_of_node new n) s
  pub same : (m : ℕ) → m ≢ n → row_of_node new m ≡ row_of_node rows m
  pub length : length new ≡ length rows
  pub drop_weight : drop_weight new + row_weight (row_of_node rows n) ≡ drop_weight rows + row_weight (row_of_node new n)

-- the node at which to go on: the one below, the same, or the one above
abbrev pub next_of : ℕ → ℕ → Shortened → Option ℕ
next_of n top (shortened.Alternative None) = Some n
next_of n top (shortened.Alternative (Some below)) = Some below
next_of n top (shortened.Row None) = None
next_of n top (shortened.Row (Some at)) = cond (n == top) None (Some at.node)
next_of n top shortened.Nothing = None

abbrev pub live_after : ℕ → Shortened → ℕ
live_after live (shortened.Alternative below) = live
live_after live (shortened.Row at) = live - 1
live_after live shortened.Nothing = live

pub record IsDropStep (rows : Rows) (live : ℕ) (new : Rows) (left : ℕ) (n top : ℕ) (result : Option ℕ) : Type 0 where
  pub taken : Shortened
  pub shortened : IsShortenedAt rows new n taken
  pub next : result ≡ next_of n top taken
  pub counted : left ≡ live_after live taken

-- the rows of a node and of all below it are gone, and no others
pub record IsDropped (rows : Rows) (live : ℕ) (new : Rows) (left : ℕ) (node : Node) : Type 0 where
  pub gone : (m : ℕ) → 0 < count_in m node → row_of_node new m ≡ None
  pub same : (m : ℕ) → count_in m node ≡ 0 → row_of_node new m ≡ row_of_node rows m
  pub counted : left ≡ live - nodes_in node

pub record DropsNode (rows : Rows) (live : ℕ) (new : Rows) (left : ℕ) (top : ℕ) : Type 0 where
  pub length : length new ≡ length rows
  pub drops : (read : Reading) (way : Branching) (parent : Option Place) (node : Node) → node_number node ≡ top
      → IsNodeIn rows read way parent node → ((m : ℕ) → count_in m node ≤ 1) → IsDropped rows live new left node
