-- The nodes to which cuts are, by how many choice points they keep, as a table.
use Rattle.std.specs.Prelude.{◌≡◌, ℕ, suc, ◌+◌, ◌-◌, ◌<◌, nat_lt, cond, List, [], ◌∷◌, ◌++◌, length, get_or}
use Rattle.tree_model.specs.Floors.{node_of}
use Rattle.tree_model.specs.Levels.{Level}
use Rattle.region_capture.specs.declared.captured.CapturedChoice.{CapturedChoice}
use Rattle.branch_shapes.specs.Groups.{Groups}
use Rattle.branch_shapes.specs.ChoiceScopes.{choice_scope}

-- the nodes of levels, the outermost first
pub record AreNodesDown (levels : List Level) (branch : List ℕ) : Type 0 where
  pub many : length branch ≡ length levels
  pub each : (n : ℕ) → n < length branch → get_or branch n 0 ≡ node_of levels (suc n)

-- a group for each choice point, the oldest first, with as many entries as it has alternatives
abbrev pub AreGroupsOf : List CapturedChoice → Groups → Type 0
AreGroupsOf [] [] = Unit {0}
AreGroupsOf [] (g ∷ gs) = ⊥
AreGroupsOf (c ∷ choices) [] = ⊥
AreGroupsOf (c ∷ choices) (g ∷ gs) = (length c.alternatives.items ≡ length g) × AreGroupsOf choices gs

-- that of no choice point, those of a branch's nodes and those of own choice points
abbrev pub all_scopes : List ℕ → List ℕ → List ℕ
all_scopes branch own = 0 ∷ branch ++ own

abbrev pub last_of : List ℕ → ℕ
last_of scopes = get_or scopes (length scopes - 1) 0

-- what a table has for a number of choice points: past the last one it is the same
abbrev pub scope_at : List ℕ → ℕ → ℕ
scope_at scopes n = cond (nat_lt n (length scopes)) (get_or scopes n 0) (last_of scopes)

-- the node for each number of choice points
pub record AreScopes (next : ℕ) (levels : List Level) (gs : Groups) (scopes : List ℕ) : Type 0 where
  pub many : length scopes ≡ suc (length levels + length gs)
  pub each : (n : ℕ) → n < length scopes → get_or scopes n 0 ≡ choice_scope next levels gs n

-- whatever the levels and the groups are, as long as these are their nodes and choice points
pub record AreScopesOf (branch : List ℕ) (choices : List CapturedChoice) (next : ℕ) (scopes : List ℕ) : Type 0 where
  pub some : 0 < length scopes
  pub kept : (levels : List Level) (gs : Groups) → AreNodesDown levels branch → AreGroupsOf choices gs → AreScopes next levels gs scopes
