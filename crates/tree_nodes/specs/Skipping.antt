-- Numbers that are drawn and name no node.
use Rattle.std.specs.Prelude.{ℕ, ◌++◌, replicate, None}
use Rattle.tree_nodes.specs.Rows.{Rows}
use Rattle.tree_nodes.specs.TreeTables.{NodesView}

abbrev pub no_rows : ℕ → Rows
no_rows n = replicate n None

-- so many numbers are drawn, as of nodes that are gone, and all else is the same
abbrev pub skipping : ℕ → NodesView → NodesView
skipping n nodes = record { rows = nodes.rows ++ no_rows n; first = nodes.first; live = nodes.live; spare = nodes.spare }
