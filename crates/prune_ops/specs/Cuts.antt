-- How a cut changes the tree.
use Rattle.std.specs.Prelude.{◌≡◌, ℕ, ◌∷◌, List, length}
use Rattle.tree_model.specs.Nodes.{Status, Inner}
use Rattle.tree_model.specs.Levels.{Level, plug, Place, place_at}
use Rattle.tree_model.specs.Pruning.{pruned}
use Rattle.tree_model.specs.Effects.{spending}
use Rattle.tree_nodes.specs.Bodies.{Body, Branching, Reading, new_node}
use Rattle.tree_nodes.specs.TreeTables.{NodesView, IsTableOf, IsWayTo}

-- one inference is spent on a place, below which is a new node, and on the levels strictly below the scope all to the right
-- has closed with the empty credit
abbrev pub CutsAt : NodesView → NodesView → Place → ℕ → Body → Type 0
CutsAt old new a scope body =
    (read : Reading) (v : Level) (up : List Level) (was : Status) (way : Branching) → place_at v ≡ a → IsTableOf old read (plug (v ∷ up) was)
    → IsWayTo old.rows (v ∷ up) way
    → IsTableOf new read (plug (pruned scope (spending 1 (v ∷ up))) (Inner (new_node read way (length old.rows) body)))
