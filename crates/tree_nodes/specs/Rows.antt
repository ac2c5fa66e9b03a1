-- The table of a tree's nodes: a row for each, found by its number.
use Rattle.std.specs.Prelude.{ℕ, List, [], Option, Some, None, slice_get}
use Rattle.std.specs.Option.{option_map}
use Rattle.clause_compile.specs.declared.item.Scope.{Scope}
use Rattle.clause_compile.specs.declared.item.Scope.TheVariants as scope
use Rattle.clause_compile.specs.declared.event.GateKind.{GateKind}
use Rattle.clause_compile.specs.declared.event.GateKind.TheVariants as gate
use Rattle.tree_model.specs.Credits.{Credit}
use Rattle.tree_model.specs.Nodes.{Gate, CutGate, BallGate, WorldGate, FrozenGate, Hold, Ready, TakenBy, Waiting, Dormant}
use Rattle.tree_model.specs.Levels.{Place}
use Rattle.tree_nodes.specs.declared.state.Credit.{Credit as CreditData}
use Rattle.tree_nodes.specs.declared.state.AltState.{AltState}
use Rattle.tree_nodes.specs.declared.state.AltState.TheVariants as alt
use Rattle.tree_nodes.specs.Bodies.{Body}

-- what is at an alternative: an entry, a node, or what has closed
pub data AlternativeCell : Type 0 where
  PendingCell : Hold → AlternativeCell
  InnerCell : ℕ → AlternativeCell
  ClosedCell : Credit → AlternativeCell

-- the alternative that the node is below, what the node was made from, and for each alternative the inferences spent on
-- it, and its cell
pub record StoredNode : Type 0 where
  pub parent : Option Place
  pub body : Body
  pub cells : List (ℕ × AlternativeCell)

-- a number is the index of its row; none where the node is gone
abbrev pub Rows : Type 0
Rows = List (Option StoredNode)

abbrev pub joined : Option (Option StoredNode) → Option StoredNode
joined None = None
joined (Some r) = r

abbrev pub row_of_node : Rows → ℕ → Option StoredNode
row_of_node rows n = joined (slice_get rows n)

-- of a node: the alternative that it is below
abbrev pub node_parent : Rows → ℕ → Option (Option Place)
node_parent rows n = option_map (λ r. r.parent) (row_of_node rows n)

abbrev pub alternatives_at : Option StoredNode → List (ℕ × AlternativeCell)
alternatives_at None = []
alternatives_at (Some r) = r.cells

-- what is spent at a place, and its cell; none where there is no such alternative
abbrev pub cell_at : Rows → Place → Option (ℕ × AlternativeCell)
cell_at rows a = slice_get (alternatives_at (row_of_node rows a.node)) a.index

abbrev pub credit_view : CreditData → Credit
credit_view c = record { inferences = c.inferences; answers = c.answers; records = c.records }

-- no scope of the tree is local to a region
abbrev pub scope_number : Scope → ℕ
scope_number (scope.Node n) = n
scope_number (scope.Local i) = i

abbrev pub gate_view : GateKind → Gate
gate_view (gate.Cut s) = CutGate (scope_number s)
gate_view (gate.Throw s ball) = BallGate (scope_number s)
gate_view (gate.World effect) = WorldGate
gate_view gate.Frozen = FrozenGate

abbrev pub cell_view : AltState → AlternativeCell
cell_view alt.Ready = PendingCell Ready
cell_view (alt.Taken w) = PendingCell (TakenBy w)
cell_view (alt.Inner n) = InnerCell n
cell_view (alt.Waiting g) = PendingCell (Waiting (gate_view g))
cell_view alt.Dormant = PendingCell Dormant
cell_view (alt.Closed c) = ClosedCell (credit_view c)
