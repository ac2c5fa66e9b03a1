-- How a cut or a ball is taken in the public tree.
use Rattle.std.specs.Prelude.{◌≡◌, ℕ, ◌-◌, Bool, true, false, List, ◌∷◌, Some}
use Rattle.run_model.specs.Machine.Entries.{Entry}
use Rattle.tree_model.specs.Nodes.{Gate, CutGate, BallGate, Hold, Pending, single}
use Rattle.tree_model.specs.Levels.{Level, plug, Place, place_at, Spot, levels_of}
use Rattle.tree_model.specs.Floors.{node_of, with_nodes}
use Rattle.tree_model.specs.Orders.{is_cleared}
use Rattle.tree_model.specs.PrivateRuns.{taken_alone}
use Rattle.tree_model.specs.Events.{Prune}
use Rattle.tree_model.specs.TreeStates.{TreeState}
use Rattle.tree_model.specs.Legality.{taken_at, gate_of, is_allowed}
use Rattle.tree_model.specs.Effects.{or_none, spot_stack}
use Rattle.tree_nodes.specs.Bodies.{Body, Branching, Reading, new_node}
use Rattle.tree_nodes.specs.Rows.{Rows}
use Rattle.tree_nodes.specs.TreeTables.{NodesView, IsTableOf, IsWayTo}
use Rattle.prune_ops.specs.Falls.{ReadsBeside}
use Rattle.public_tree.specs.declared.prune.Pruning.{Pruning}
use Rattle.public_tree.specs.declared.prune.Pruning.TheVariants.{Taken, NotCleared, HasEnded}
use Rattle.public_tree.specs.PublicTrees.{PublicView, IsPublicOf, NotesIn, IsSameTree, is_going}

-- whether all to the left of an entry below a node has closed
abbrev pub IsClearedAt : NodesView → Place → ℕ → Bool → Type 0
IsClearedAt nodes a scope result =
    (read : Reading) (v : Level) (up : List Level) (hold : Hold) (entry : Entry) → place_at v ≡ a
    → IsTableOf nodes read (plug (v ∷ up) (Pending hold entry)) → result ≡ is_cleared (Some scope) (v ∷ up)

-- in this tree, what is out to a worker has come to this gate, and this holds of what is left there
abbrev pub AtGate : Gate → ℕ → Place → (Spot → List Entry → Type 0) → TreeState → Type 0
AtGate g w a Left t =
    (s : Spot) → taken_at w a t ≡ Some s → (gate_of t s ≡ Some g) × Left s (or_none (taken_alone t.job.clauses (spot_stack s)))

-- below a place a body has one branch, which is ready and reads as the entry on top of a stack
pub record ReadsAsTop (read : Reading) (way : Branching) (body : Body) (levels : List Level) (stack : List Entry) : Type 0 where
  pub entry : Entry
  pub under : List Entry
  pub top : stack ≡ entry ∷ under
  pub node : (n : ℕ) → new_node read way n body ≡ single n (with_nodes (node_of levels) entry)

-- what is out to a worker cuts to this scope, and below it a body reads as what the cut leaves
abbrev pub CutsAs : Rows → ℕ → Body → ℕ → Place → Reading → TreeState → Type 0
CutsAs rows n body w a read t =
    AtGate (CutGate n) w a (λ s left. (way : Branching) → IsWayTo rows (levels_of s) way → ReadsAsTop read way body (levels_of s) left) t

-- below what sleeps at the scope of a ball a body reads as what the ball leaves
pub record ReadsAsFallen (read : Reading) (rows : Rows) (n : ℕ) (body : Body) (levels : List Level) (stack : List Entry) : Type 0 where
  pub entry : Entry
  pub under : List Entry
  pub top : stack ≡ entry ∷ under
  pub beside : ReadsBeside read rows (record { node = n; index = 0 }) body (with_nodes (node_of levels) entry)

-- the ball of what is out to a worker lands at this scope, and a body reads as what it leaves there
abbrev pub LandsAs : Rows → ℕ → Body → ℕ → Place → Reading → TreeState → Type 0
LandsAs rows n body w a read t = AtGate (BallGate n) w a (λ s left. ReadsAsFallen read rows n body (levels_of s) left) t

-- in each tree for which it stands and of which this holds it is taken; or it may not be taken yet, or the tree had ended or
-- been stopped
abbrev pub Prunes : PublicView → PublicView → ℕ → Place → (ℕ → Place → Reading → TreeState → Type 0) → Pruning → Type 0
Prunes old new w a Known Taken =
    (read : Reading) (t : TreeState) → IsPublicOf old read t → Known w a read t → NotesIn old new (Prune w a) read t
Prunes old new w a Known NotCleared = IsSameTree old new
    × ((read : Reading) (t : TreeState) → IsPublicOf old read t → Known w a read t → (is_going t ≡ true) × (is_allowed t (Prune w a) ≡ false))
Prunes old new w a Known HasEnded = IsSameTree old new × ((read : Reading) (t : TreeState) → IsPublicOf old read t → is_going t ≡ false)

-- so many tasks are promised to come back
abbrev pub promised_after : Pruning → ℕ → ℕ
promised_after Taken n = n - 1
promised_after NotCleared n = n
promised_after HasEnded n = n
