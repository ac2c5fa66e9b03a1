-- What a region has left above the floor of its branch: an entry on top, and under it a group of entries for each of its choice
-- points. The groups are listed the oldest first; one whose clauses all fail to unify is empty.
use Rattle.std.specs.Prelude.{ℕ, zero, suc, ◌+◌, List, [], ◌∷◌, ◌++◌, map, length, take}
use Rattle.run_model.specs.Machine.Entries.{Entry}
use Rattle.tree_model.specs.Levels.{Level}
use Rattle.tree_model.specs.Floors.{node_of}

abbrev pub Groups : Type 0
Groups = List (List Entry)

-- their entries as a stack
abbrev pub stacked : Groups → List Entry
stacked [] = []
stacked (g ∷ gs) = stacked gs ++ g

abbrev pub entries_in : Groups → ℕ
entries_in [] = 0
entries_in (g ∷ gs) = length g + entries_in gs

-- the height over a floor that a cut leaves which keeps so many groups
abbrev pub height_kept : ℕ → Groups → ℕ → ℕ
height_kept floor gs c = floor + entries_in (take c gs)

-- those that become nodes
abbrev pub nonempty_groups : Groups → Groups
nonempty_groups [] = []
nonempty_groups ([] ∷ gs) = nonempty_groups gs
nonempty_groups ((e ∷ es) ∷ gs) = (e ∷ es) ∷ nonempty_groups gs

-- where there is none, the entry on top is alone in a node
abbrev pub or_alone : Groups → Groups
or_alone [] = [] ∷ []
or_alone (g ∷ gs) = g ∷ gs

-- the further alternatives of the nodes, the outermost first
abbrev pub node_groups : Groups → Groups
node_groups gs = or_alone (nonempty_groups gs)

-- how many alternatives the nodes have: the first one leads on
abbrev pub node_sizes : Groups → List ℕ
node_sizes gs = map (λ g. suc (length g)) (node_groups gs)

-- the node of the newest of so many nodes, or that of the alternative itself
abbrev pub newest_node : ℕ → List Level → ℕ → ℕ
newest_node next levels zero = node_of levels (length levels)
newest_node next levels (suc n) = next + n

-- the node to which a cut is that keeps so many groups
abbrev pub scope_kept : ℕ → List Level → Groups → ℕ → ℕ
scope_kept next levels gs c = newest_node next levels (length (nonempty_groups (take c gs)))
