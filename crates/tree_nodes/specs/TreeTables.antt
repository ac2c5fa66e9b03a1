-- The tree for which a table of nodes stands.
use Rattle.std.specs.Prelude.{◌≡◌, ℕ, suc, ◌<◌, ◌≤◌, List, [], ◌∷◌, length, Option, Some, None}
use Rattle.tree_model.specs.Nodes.{Node, Numbered, Alternatives, none, alternative, Status, Pending, Inner, Closed, nodes_below}
use Rattle.tree_model.specs.Levels.{Level, Place, place_at}
use Rattle.tree_model.specs.SoundTrees.{count_below}
use Rattle.tree_nodes.specs.Bodies.{Body, Branching, Reading, node_kind}
use Rattle.tree_nodes.specs.Rows.{AlternativeCell, PendingCell, InnerCell, ClosedCell, StoredNode, Rows, row_of_node}

abbrev pub node_number : Node → ℕ
node_number (Numbered n kind alternatives) = n

abbrev pub cell_of : Status → AlternativeCell
cell_of (Pending hold entry) = PendingCell hold
cell_of (Inner node) = InnerCell (node_number node)
cell_of (Closed credit) = ClosedCell credit

abbrev pub cells_of : Alternatives → List (ℕ × AlternativeCell)
cells_of none = []
cells_of (alternative spent status others) = (spent, cell_of status) ∷ cells_of others

-- numbers grow downward
abbrev pub IsBelow : Option Place → ℕ → Type 0
IsBelow None n = Unit {0}
IsBelow (Some a) n = a.node < n

-- the rows of a node and of all that is below it, by the way down to it and the alternative that it is below; the entry of
-- each pending alternative is what its branch reads as
abbrev mutual
  pub IsNodeIn : Rows → Reading → Branching → Option Place → Node → Type 0
  IsNodeIn rows read way parent (Numbered n kind alternatives) =
      (body : Body) × ((row_of_node rows n ≡ Some (record { parent = parent; body = body; cells = cells_of alternatives }))
      × (kind ≡ node_kind body.kind) × IsBelow parent n × AreIn rows read way body n 0 alternatives)

  pub AreIn : Rows → Reading → Branching → Body → ℕ → ℕ → Alternatives → Type 0
  AreIn rows read way body n i none = Unit {0}
  AreIn rows read way body n i (alternative spent status others) = IsIn rows read ((body, i) ∷ way)
      (Some (record { node = n; index = i })) status × AreIn rows read way body n (suc i) others

  pub IsIn : Rows → Reading → Branching → Option Place → Status → Type 0
  IsIn rows read way parent (Pending hold entry) = entry ≡ read way
  IsIn rows read way parent (Inner node) = IsNodeIn rows read way parent node
  IsIn rows read way parent (Closed credit) = Unit {0}

-- what contracts see of the nodes
pub record NodesView : Type 0 where
  pub rows : Rows
  -- the node without a parent
  pub first : Option ℕ
  pub live : ℕ
  -- so many closings are provided for
  pub spare : ℕ

abbrev pub IsRoot : Option ℕ → Status → Type 0
IsRoot first (Inner node) = first ≡ Some (node_number node)
IsRoot first (Closed credit) = first ≡ None
IsRoot first (Pending hold entry) = ⊥

-- the nodes stand for this tree
pub record IsTableOf (nodes : NodesView) (read : Reading) (root : Status) : Type 0 where
  pub placed : IsIn nodes.rows read [] None root
  pub rooted : IsRoot nodes.first root
  -- no number names two nodes
  pub distinct : (n : ℕ) → count_below n root ≤ 1
  -- what is not in the tree is gone
  pub others : (n : ℕ) → count_below n root ≡ 0 → row_of_node nodes.rows n ≡ None
  pub live : nodes.live ≡ nodes_below root

pub record Stand (nodes : NodesView) : Type 0 where
  pub read : Reading
  pub root : Status
  pub stands : IsTableOf nodes read root

abbrev pub stored_body : Body → Option StoredNode → Body
stored_body other None = other
stored_body other (Some r) = r.body

-- the branches on the way down to a place
abbrev pub IsWayTo : Rows → List Level → Branching → Type 0
IsWayTo rows [] way = way ≡ []
IsWayTo rows (v ∷ up) way =
    (r : StoredNode) × ((above : Branching) × ((row_of_node rows v.number ≡ Some r) × (way ≡ (r.body, length v.left) ∷ above) × IsWayTo rows up above))

-- the alternative above all levels
abbrev pub above_of : List Level → Option Place
above_of [] = None
above_of (v ∷ up) = Some (place_at v)
