-- The leftmost entry of a tree.
use Rattle.std.specs.Prelude.{◌≡◌, ℕ, List, [], Option, Some, None}
use Rattle.std.specs.Option.{option_map}
use Rattle.tree_model.specs.Nodes.{Kind, Numbered, Alternatives, Status, Inner}
use Rattle.tree_model.specs.Levels.{Level, plug, Place, place_of_spot, pending_in, pending_of}
use Rattle.tree_model.specs.PendingLists.{Way}
use Rattle.tree_model.specs.SoundTrees.{IsSound, IsSoundNode}
use Rattle.tree_model.specs.TreeStates.{first_spot}
use Rattle.tree_nodes.specs.Bodies.{Reading}
use Rattle.tree_nodes.specs.TreeTables.{NodesView, IsTableOf}

-- of a sound tree
abbrev pub IsLeftmost : NodesView → Option Place → Type 0
IsLeftmost nodes result =
    (read : Reading) (root : Status) → IsTableOf nodes read root → IsSound [] root
    → option_map place_of_spot (first_spot (pending_of root)) ≡ result

-- on the way down, the leftmost entry of the tree is that of the current node
pub record IsDownTo (root : Status) (n : ℕ) : Type 0 where
  pub up : List Level
  pub kind : Kind
  pub alternatives : Alternatives
  pub way : Way
  pub same : root ≡ plug up (Inner (Numbered n kind alternatives))
  pub sound : IsSoundNode way (Numbered n kind alternatives)
  pub first : first_spot (pending_of root) ≡ first_spot (pending_in up (Numbered n kind alternatives))

abbrev pub GoesDown : NodesView → ℕ → Type 0
GoesDown nodes n = (read : Reading) (root : Status) → IsTableOf nodes read root → IsSound [] root → IsDownTo root n

-- a node to go down from; none where no node is there
abbrev pub IsTop : NodesView → Option ℕ → Type 0
IsTop nodes None = nodes.first ≡ None
IsTop nodes (Some n) = GoesDown nodes n
