-- Bodies that read as entries in groups: the first branch of each leads to the next body, and its further branches are a group.
use Rattle.std.specs.Prelude.{◌≡◌, ℕ, suc, List, [], ◌∷◌, length, true, Some, slice_get}
use Rattle.run_model.specs.Machine.Entries.{Entry}
use Rattle.tree_model.specs.Floors.{with_nodes}
use Rattle.tree_model.specs.Levels.{Level}
use Rattle.tree_model.specs.Shapes.{guard_kind, is_alone, placed, placed_scope}
use Rattle.tree_nodes.specs.Bodies.{Body, Branching, Reading, node_kind}
use Rattle.public_tree.specs.Publishing.{AreWhole, body_sizes, nest}
use Rattle.branch_shapes.specs.Groups.{Groups, stacked, node_groups, node_sizes}

-- a further branch for each entry of a group, each with its scopes named
pub record ReadsAsGroup (read : Reading) (way : Branching) (name : ℕ → ℕ) (b : Body) (g : List Entry) : Type 0 where
  pub kind : node_kind b.kind ≡ guard_kind g
  pub alone : is_alone g ≡ true
  pub branches : length b.branches ≡ suc (length g)
  pub reads : (i : ℕ) (e : Entry) → slice_get g i ≡ Some e → read ((b, suc i) ∷ way) ≡ with_nodes name e

-- a body for each group, the outermost first, and the entry on top as the innermost first branch
abbrev pub ReadAsGroups : Reading → (ℕ → ℕ) → Entry → Branching → List Body → Groups → Type 0
ReadAsGroups read name current way [] [] = read way ≡ with_nodes name current
ReadAsGroups read name current way [] (g ∷ gs) = ⊥
ReadAsGroups read name current way (b ∷ bodies) [] = ⊥
ReadAsGroups read name current way (b ∷ bodies) (g ∷ gs) = ReadsAsGroup read way name b g × ReadAsGroups read name current ((b, 0) ∷ way) bodies gs

-- below a way, as nodes that are numbered from here on
abbrev pub ReadAsRun : Reading → Branching → ℕ → List Level → List Body → Entry → Groups → Type 0
ReadAsRun read way next levels bodies current gs = ReadAsGroups read (placed_scope next (node_sizes gs) levels) current way bodies (node_groups gs)

-- their nodes are those that the run becomes
abbrev pub BodiesArePlaced : Type 0
BodiesArePlaced = (read : Reading) (way : Branching) (next : ℕ) (levels : List Level) (bodies : List Body) (current : Entry) (gs : Groups)
    → ReadAsRun read way next levels bodies current gs → nest read way next bodies ≡ placed next (node_sizes gs) levels (current ∷ stacked gs)

abbrev pub BodiesAreSized : Type 0
BodiesAreSized = (read : Reading) (way : Branching) (next : ℕ) (levels : List Level) (bodies : List Body) (current : Entry) (gs : Groups)
    → ReadAsRun read way next levels bodies current gs → body_sizes bodies ≡ node_sizes gs

abbrev pub BodiesAreWhole : Type 0
BodiesAreWhole = (read : Reading) (way : Branching) (next : ℕ) (levels : List Level) (bodies : List Body) (current : Entry) (gs : Groups)
    → ReadAsRun read way next levels bodies current gs → AreWhole bodies
