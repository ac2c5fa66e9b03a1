-- Entries in groups fit nodes: to which nodes their cuts are, and that their run has the shape of such nodes.
use Rattle.std.specs.Prelude.{◌≡◌, ◌⊎◌, ℕ, suc, ◌+◌, ◌≤◌, List, [], ◌∷◌, ◌++◌, length, true, Some, slice_get}
use Rattle.au_model.specs.Terms.Each.{Each}
use Rattle.run_model.specs.Machine.Entries.{Entry}
use Rattle.tree_model.specs.Legality.{run_fits}
use Rattle.tree_model.specs.Levels.{Level}
use Rattle.tree_model.specs.Floors.{node_of}
use Rattle.tree_model.specs.Shapes.{cuts_of_entry, is_alone, placed_scope}
use Rattle.branch_shapes.specs.Groups.{Groups, stacked, height_kept, node_sizes, scope_kept}

-- a cut that keeps so many groups
pub record KeepsGroups (floor : ℕ) (gs : Groups) (h : ℕ) : Type 0 where
  pub groups : ℕ
  pub is : h ≡ height_kept floor gs groups

-- a height of the floor, or one that keeps whole groups
abbrev pub IsWholeHeight : ℕ → Groups → ℕ → Type 0
IsWholeHeight floor gs h = (h ≤ floor) ⊎ KeepsGroups floor gs h

-- no cut of an entry splits a group
abbrev pub HasWholeCuts : ℕ → Groups → Entry → Type 0
HasWholeCuts floor gs e = Each (IsWholeHeight floor gs) (cuts_of_entry e)

-- nor does one of any entry, and a catch or findall entry is alone in its group
pub record CanBeNodes (floor : ℕ) (current : Entry) (gs : Groups) : Type 0 where
  pub on_top : HasWholeCuts floor gs current
  pub whole : Each (λ g. Each (HasWholeCuts floor gs) g) gs
  pub alone : Each (λ g. is_alone g ≡ true) gs

-- a cut that keeps groups is to the node of the newest of them that is not empty
abbrev pub GroupsAreScopes : Type 0
GroupsAreScopes = (next : ℕ) (levels : List Level) (gs : Groups) (c : ℕ) →
    placed_scope next (node_sizes gs) levels (height_kept (length levels) gs c) ≡ scope_kept next levels gs c

-- one to the floor is to the node there
abbrev pub FloorsAreScopes : Type 0
FloorsAreScopes = (next : ℕ) (sizes : List ℕ) (levels : List Level) (h : ℕ) → h ≤ length levels → placed_scope next sizes levels h ≡ node_of levels h

-- the mark of an entry that is alone in its group is of the node to which a cut is that keeps this group too
abbrev pub GuardsAreScopes : Type 0
GuardsAreScopes = (floor : ℕ) (gs : Groups) (c : ℕ) (e : Entry) → slice_get gs c ≡ Some (e ∷ []) → suc (height_kept floor gs c) ≡ height_kept floor gs (suc c)

-- newer groups are over older ones
abbrev pub GroupsStackUp : Type 0
GroupsStackUp = (older newer : Groups) → stacked (older ++ newer) ≡ stacked newer ++ stacked older

-- and as many entries are under them
abbrev pub HeightsCountEntries : Type 0
HeightsCountEntries = (floor : ℕ) (older newer : Groups) → height_kept floor (older ++ newer) (length older) ≡ floor + length (stacked older)

-- such entries become nodes of these sizes
abbrev pub GroupsFit : Type 0
GroupsFit = (floor : ℕ) (current : Entry) (gs : Groups) → CanBeNodes floor current gs → run_fits floor (node_sizes gs) (Some (current ∷ stacked gs)) ≡ true
