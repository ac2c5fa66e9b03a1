-- The way from one place of a tree to another.
use Rattle.std.specs.Prelude.{◌≡◌, ◌≢◌, ℕ, ◌==◌, cond, List, [], ◌∷◌, ◌++◌, Option, Some, None, reverse}
use Rattle.au_term.specs.declared.segment.Segment.{Segment}
use Rattle.tree_model.specs.Nodes.{Status}
use Rattle.tree_model.specs.Levels.{Level, plug, Place, place_at}
use Rattle.tree_model.specs.Orders.{path_of}
use Rattle.tree_nodes.specs.Bodies.{Reading}
use Rattle.tree_nodes.specs.Rows.{StoredNode, Rows, row_of_node}
use Rattle.tree_nodes.specs.TreeTables.{NodesView, IsTableOf}
use Rattle.node_trail.specs.Segments.{no_segment, branch_segment}

abbrev pub node_segment_in : Option StoredNode → Segment
node_segment_in None = no_segment
node_segment_in (Some r) = r.body.segment

abbrev pub branch_segment_in : ℕ → Option StoredNode → Segment
branch_segment_in i None = no_segment
branch_segment_in i (Some r) = branch_segment i r.body.branches

abbrev pub node_segment : Rows → ℕ → Segment
node_segment rows n = node_segment_in (row_of_node rows n)

abbrev pub place_segment : Rows → Place → Segment
place_segment rows p = branch_segment_in p.index (row_of_node rows p.node)

-- what is entered on the way down
abbrev pub segments_down : Rows → List Place → List Segment
segments_down rows [] = []
segments_down rows (p ∷ ps) = node_segment rows p.node ∷ place_segment rows p ∷ segments_down rows ps

-- the same below a node at which ways part, from an alternative of it
abbrev pub segments_below : Rows → Place → Place → List Place → List Segment
segments_below rows at other below = cond (at.index == other.index) (segments_down rows below) (place_segment rows at ∷ segments_down rows below)

abbrev pub HeadsApart : List Place → List Place → Type 0
HeadsApart [] qs = Unit {0}
HeadsApart (p ∷ ps) [] = Unit {0}
HeadsApart (p ∷ ps) (q ∷ qs) = p.node ≢ q.node

-- the last node that two ways have in common, and the segments below it
pub record IsParting (rows : Rows) (one two : List Place) (leave enter : List Segment) : Type 0 where
  pub front : List Place
  pub at : Place
  pub other : Place
  pub below : List Place
  pub beneath : List Place
  pub first : one ≡ front ++ at ∷ below
  pub second : two ≡ front ++ other ∷ beneath
  pub node : at.node ≡ other.node
  pub apart : HeadsApart below beneath
  pub left : leave ≡ reverse (segments_below rows at other below)
  pub entered : enter ≡ segments_below rows other at beneath

abbrev pub IsPathBetween : NodesView → Place → Place → List Segment → List Segment → Type 0
IsPathBetween nodes a b leave enter =
    (read : Reading) (v : Level) (up : List Level) (s : Status) (w : Level) (over : List Level) (t : Status) → place_at v ≡ a → place_at w ≡ b
    → IsTableOf nodes read (plug (v ∷ up) s) → plug (v ∷ up) s ≡ plug (w ∷ over) t
    → IsParting nodes.rows (path_of (v ∷ up)) (path_of (w ∷ over)) leave enter
