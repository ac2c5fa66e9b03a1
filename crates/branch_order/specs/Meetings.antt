-- Two branches, and where they part.
use Rattle.std.specs.Prelude.{◌≡◌, ◌⊎◌, ℕ, ◌+◌, ◌<◌, Bool, List, ◌∷◌, Option, Some, None, IsSome}
use Rattle.tree_model.specs.declared.places.AltRef.{AltRef}
use Rattle.tree_model.specs.EventViews.{place_view}
use Rattle.tree_model.specs.Nodes.{Status}
use Rattle.tree_model.specs.Levels.{Level, plug, Place, place_at}
use Rattle.tree_model.specs.Orders.{path_of, parts_left}
use Rattle.tree_nodes.specs.Bodies.{Reading}
use Rattle.tree_nodes.specs.Rows.{Rows, node_parent, cell_at}
use Rattle.tree_nodes.specs.TreeTables.{NodesView, IsTableOf}

-- whether one place of a tree is before another
abbrev pub IsBeforeAt : NodesView → Place → Place → Bool → Type 0
IsBeforeAt nodes a b result =
    (read : Reading) (v : Level) (up : List Level) (s : Status) (w : Level) (over : List Level) (t : Status) → place_at v ≡ a → place_at w ≡ b
    → IsTableOf nodes read (plug (v ∷ up) s) → plug (v ∷ up) s ≡ plug (w ∷ over) t → result ≡ parts_left (path_of (v ∷ up)) (path_of (w ∷ over))

-- one side is deeper, and this is above its node
abbrev pub IsUpFrom : Rows → Place → Place → Option Place → Type 0
IsUpFrom rows a b above = (b.node < a.node) × (node_parent rows a.node ≡ Some above)

-- the deeper side has gone up
abbrev pub IsMeetStep : Rows → Place → Place → Option (AltRef × AltRef) → Type 0
IsMeetStep rows a b (Some p) =
    (IsUpFrom rows a b (Some (place_view p.0)) × (place_view p.1 ≡ b)) ⊎ (IsUpFrom rows b a (Some (place_view p.1)) × (place_view p.0 ≡ a))
IsMeetStep rows a b None = (a.node ≡ b.node) ⊎ (IsUpFrom rows a b None ⊎ IsUpFrom rows b a None)

abbrev pub AreInTable : Rows → Option (AltRef × AltRef) → Type 0
AreInTable rows None = Unit {0}
AreInTable rows (Some p) = IsSome (cell_at rows (place_view p.0)) × IsSome (cell_at rows (place_view p.1))

abbrev pub AreLower : ℕ → Option (AltRef × AltRef) → Type 0
AreLower n None = Unit {0}
AreLower n (Some p) = p.0.node + p.1.node < n
