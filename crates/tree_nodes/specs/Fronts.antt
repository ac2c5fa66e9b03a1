-- The front of a table: nodes from the first one down, to the left of which all has closed, and what was counted there.
use Rattle.std.specs.Prelude.{◌≡◌, ◌≢◌, ◌<◌, ◌≤◌, ◌⊎◌, ℕ, Bool, true, false, List, [], ◌∷◌, ◌++◌, Option, Some, None, IsSome, take}
use Rattle.tree_model.specs.Credits.{counted}
use Rattle.tree_model.specs.Levels.{Place}
use Rattle.tree_nodes.specs.declared.front.Front.{Front}
use Rattle.tree_nodes.specs.Rows.{AlternativeCell, InnerCell, Rows, row_of_node, node_parent, alternatives_at, cell_at}
use Rattle.tree_nodes.specs.Gathering.{is_shut_at, are_shut}
use Rattle.tree_nodes.specs.RowViews.{inner_of}
use Rattle.tree_nodes.specs.Siblings.{counts_from}
use Rattle.tree_nodes.specs.TreeTables.{NodesView, Stand}

abbrev pub place_on : ℕ → ℕ → Place
place_on n i = record { node = n; index = i }

-- what was counted to the left of an alternative
abbrev pub counts_beside : Rows → Place → ℕ × ℕ
counts_beside rows a = counts_from (0, 0) (take a.index (alternatives_at (row_of_node rows a.node)))

-- the second node is below an alternative of the first one, and all to its left there has closed
pub record IsNextTo (rows : Rows) (d e : Front) : Type 0 where
  pub index : ℕ
  pub spent : ℕ
  pub cell : cell_at rows (place_on d.node index) ≡ Some (spent, InnerCell e.node)
  pub parent : node_parent rows e.node ≡ Some (Some (place_on d.node index))
  pub shut : are_shut (take index (alternatives_at (row_of_node rows d.node))) ≡ true
  pub answers : e.answers ≡ counted d.answers (counts_beside rows (place_on d.node index)).0
  pub inferences : e.inferences ≡ counted d.inferences (counted (counts_beside rows (place_on d.node index)).1 spent)

-- nothing was counted above the first node
pub record IsFirstFront (first : Option ℕ) (e : Front) : Type 0 where
  pub node : first ≡ Some e.node
  pub answers : e.answers ≡ 0
  pub inferences : e.inferences ≡ 0

abbrev pub IsNextDown : Rows → Option ℕ → Option Front → Front → Type 0
IsNextDown rows first None e = IsFirstFront first e
IsNextDown rows first (Some d) e = IsNextTo rows d e

-- each is next to the one before it
abbrev pub AreNext : Rows → Option ℕ → Option Front → List Front → Type 0
AreNext rows first before [] = Unit {0}
AreNext rows first before (e ∷ front) = IsNextDown rows first before e × AreNext rows first (Some e) front

-- the last of such nodes
abbrev pub IsFront : NodesView → Option Front → Type 0
IsFront nodes None = Unit {0}
IsFront nodes (Some e) = (above : List Front) × AreNext nodes.rows nodes.first None (above ++ e ∷ [])

abbrev pub IsNextOf : NodesView → Option Front → Option Front → Type 0
IsNextOf nodes before None = Unit {0}
IsNextOf nodes before (Some e) = IsNextDown nodes.rows nodes.first before e

abbrev pub IsLastOf : List Front → Option Front → Type 0
IsLastOf front None = front ≡ []
IsLastOf front (Some e) = (above : List Front) × (front ≡ above ++ e ∷ [])

-- the last node is there, and its number is no greater
abbrev pub IsLastThere : Rows → ℕ → List Front → Type 0
IsLastThere rows limit front = (above : List Front) (e : Front) → front ≡ above ++ e ∷ [] → IsSome (row_of_node rows e.node) × (e.node ≤ limit)

abbrev pub IsLastTest : Rows → ℕ → List Front → Bool → Type 0
IsLastTest rows limit front true = IsLastThere rows limit front
IsLastTest rows limit front false = (e : Front) × IsLastOf front (Some e)

-- nodes are taken off from the last on, until it is there
abbrev pub Retreats : Rows → ℕ → List Front → List Front → Type 0
Retreats rows limit old new = ((past : List Front) × (old ≡ new ++ past)) × IsLastThere rows limit new

-- another cell at a place changes nothing that is to the left of the front: none of an alternative that had closed, and no
-- node that was there
pub record IsBeyond (rows : Rows) (a : Place) (cell : AlternativeCell) : Type 0 where
  pub was : is_shut_at (cell_at rows a) ≡ false
  pub now : (m : ℕ) → IsSome (row_of_node rows m) → inner_of cell ≢ Some m

-- an alternative to the left of a place at its node is open
pub record HasOpenLeft (rows : Rows) (a : Place) : Type 0 where
  pub index : ℕ
  pub less : index < a.index
  pub there : IsSome (cell_at rows (place_on a.node index))
  pub unclosed : is_shut_at (cell_at rows (place_on a.node index)) ≡ false

-- so far down the front stays where another cell is put at a place
abbrev pub KeepsFront : Rows → Place → AlternativeCell → ℕ → Type 0
KeepsFront rows a cell limit = HasOpenLeft rows a ⊎ (IsBeyond rows a cell ⊎ (limit ≡ a.node))

-- what is kept of nodes: they stand for a tree, and the front is one
pub record AreKept (nodes : NodesView) (front : List Front) : Type 0 where
  pub tree : Stand nodes
  pub led : AreNext nodes.rows nodes.first None front
