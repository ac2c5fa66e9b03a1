-- What is out becomes nodes: the entries to which its private run has come.
use Rattle.std.specs.Prelude.{◌≡◌, ℕ, suc, ◌+◌, true, List, [], ◌∷◌, map, length, drop, Some}
use Rattle.std.specs.Arc.{arc_value}
use Rattle.std.specs.Global.{Global}
use Rattle.std.specs.Option.{option_map}
use Rattle.std.specs.declared.sync.Arc.{Arc}
use Rattle.run_model.specs.Machine.Entries.{Entry}
use Rattle.tree_model.specs.Events.{Event, Nodes}
use Rattle.tree_model.specs.Legality.{taken_at, run_of, run_fits}
use Rattle.tree_model.specs.Levels.{Level, plug, Place, place_at, Spot, levels_of}
use Rattle.tree_model.specs.Nodes.{Hold, Ready, TakenBy, Numbered, alternative, Status, Pending, Inner}
use Rattle.tree_model.specs.Shapes.{placed}
use Rattle.tree_model.specs.TreeStates.{TreeState}
use Rattle.tree_nodes.specs.declared.body.NodeBody.{NodeBody}
use Rattle.tree_nodes.specs.Bodies.{Body, Branching, Reading, IsWhole, body_view, node_kind, new_alternatives}
use Rattle.tree_nodes.specs.Rows.{PendingCell, Rows, cell_at}
use Rattle.tree_nodes.specs.TreeTables.{NodesView, IsTableOf, IsWayTo}

abbrev pub bodies_view : List (Arc NodeBody Global) → List Body
bodies_view bodies = map (λ b. body_view (arc_value b)) bodies

abbrev pub AreWhole : List Body → Type 0
AreWhole [] = Unit {0}
AreWhole (b ∷ bs) = IsWhole b × AreWhole bs

-- how many branches each has
abbrev pub body_sizes : List Body → List ℕ
body_sizes bodies = map (λ b. length b.branches) bodies

-- the event by which they come to be after so many inferences
abbrev pub publishing_event : List Body → ℕ → Place → ℕ → Event
publishing_event bodies w a k = Nodes w a k (body_sizes bodies)

-- nodes of these bodies, numbered from here on, the outermost first: each is the first alternative of the one before
abbrev pub nest : Reading → Branching → ℕ → List Body → Status
nest read way n [] = Pending Ready (read way)
nest read way n (b ∷ bs) = Inner (Numbered n (node_kind b.kind)
    (alternative 0 (nest read ((b, 0) ∷ way) (suc n) bs) (new_alternatives read way b 1 (drop 1 b.branches))))

-- in this tree, the private run of what is out has come after so many inferences to entries that become nodes of the bodies'
-- sizes, and nodes of the bodies, below the place, read as those
pub record RunReadsAs (rows : Rows) (bodies : List Body) (w : ℕ) (a : Place) (k : ℕ) (read : Reading) (t : TreeState) : Type 0 where
  pub fits : (s : Spot) → taken_at w a t ≡ Some s → run_fits (length (levels_of s)) (body_sizes bodies) (run_of t s k) ≡ true
  pub reads : (s : Spot) (way : Branching) (es : List Entry) → taken_at w a t ≡ Some s → IsWayTo rows (levels_of s) way → run_of t s k ≡ Some es
      → nest read way t.next bodies ≡ placed t.next (body_sizes bodies) (levels_of s) es

abbrev pub IsReadyAt : Rows → Place → Type 0
IsReadyAt rows a = option_map (λ c. c.1) (cell_at rows a) ≡ Some (PendingCell Ready)

-- nodes of these bodies are below a place
pub record AddsBelow (old new : NodesView) (a : Place) (bodies : List Body) : Type 0 where
  pub numbers : length new.rows ≡ length old.rows + length bodies
  pub placed : (read : Reading) (v : Level) (up : List Level) (was : Status) (way : Branching) → place_at v ≡ a → IsTableOf old read (plug (v ∷ up) was)
      → IsWayTo old.rows (v ∷ up) way → IsTableOf new read (plug (v ∷ up) (nest read way (length old.rows) bodies))
  -- and the way to it is as before
  pub same_way : (read : Reading) (v : Level) (up : List Level) (was : Status) (way : Branching) → place_at v ≡ a → IsTableOf old read (plug (v ∷ up) was)
      → IsWayTo old.rows (v ∷ up) way → IsWayTo new.rows (v ∷ up) way

-- of some bodies
abbrev pub AddsSome : NodesView → NodesView → Place → Type 0
AddsSome old new a = (bodies : List Body) × AddsBelow old new a bodies

-- below what has an entry there are nodes of these bodies, and so many inferences more are spent on it
pub record MakesNodes (old new : NodesView) (a : Place) (k : ℕ) (bodies : List Body) : Type 0 where
  pub numbers : length new.rows ≡ length old.rows + length bodies
  pub placed : (read : Reading) (v : Level) (up : List Level) (hold : Hold) (entry : Entry) (way : Branching) → place_at v ≡ a
      → IsTableOf old read (plug (v ∷ up) (Pending hold entry)) → IsWayTo old.rows (v ∷ up) way
      → IsTableOf new read (plug (record v { spent = v.spent + k } ∷ up) (nest read way (length old.rows) bodies))

-- the nodes stand for the same trees in which a worker has what is here
pub record IsSameWith (old new : NodesView) (w : ℕ) (a : Place) : Type 0 where
  pub numbers : length new.rows ≡ length old.rows
  pub same : (read : Reading) (v : Level) (up : List Level) (entry : Entry) → place_at v ≡ a → IsTableOf old read (plug (v ∷ up) (Pending (TakenBy w) entry))
      → IsTableOf new read (plug (v ∷ up) (Pending (TakenBy w) entry))
