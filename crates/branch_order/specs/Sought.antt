-- The leftmost entry that passes_test a test.
use Rattle.std.specs.Prelude.{◌≡◌, ℕ, ◌+◌, ◌-◌, ◌<◌, ◌≤◌, Bool, true, false, List, [], ◌∷◌, ◌++◌, length, find, Option, Some, None, IsSome}
use Rattle.std.specs.Option.{option_map}
use Rattle.tree_model.specs.EventViews.{place_view}
use Rattle.tree_model.specs.Nodes.{Kind, Numbered, Alternatives, Status, Pending, Inner, Closed, nodes_among}
use Rattle.tree_model.specs.Levels.{Level, put_left, level_node, plug, Place, place_at, Spot, place_of_spot, pending_among, pending_of}
use Rattle.tree_model.specs.Legality.{is_ready, may_resume}
use Rattle.tree_nodes.specs.Bodies.{Reading}
use Rattle.tree_nodes.specs.Rows.{Rows, row_of_node, alternatives_at, cell_at}
use Rattle.tree_nodes.specs.TreeTables.{NodesView, IsTableOf}
use Rattle.branch_order.specs.declared.sought.Sought.{Sought}
use Rattle.branch_order.specs.declared.sought.Sought.TheVariants.{Ready, Cleared}
use Rattle.branch_order.specs.declared.sought.Turn.{Turn}
use Rattle.branch_order.specs.declared.sought.Turn.TheVariants.{Found, Down, Up}

abbrev pub test_of : Sought → Spot → Bool
test_of Ready s = is_ready s.hold
test_of Cleared s = may_resume s s.hold

abbrev pub wants_ready : Sought → Bool
wants_ready Ready = true
wants_ready Cleared = false

abbrev pub IsFirstEntry : (Spot → Bool) → NodesView → Option Place → Type 0
IsFirstEntry test nodes result =
    (read : Reading) (root : Status) → IsTableOf nodes read root → option_map place_of_spot (find test (pending_of root)) ≡ result

-- what is no entry doesn't pass
abbrev pub passes_test : (Spot → Bool) → Level → List Level → Status → Bool
passes_test test v up (Pending hold entry) = test (record { level = v; above = up; hold = hold; entry = entry })
passes_test test v up (Inner node) = false
passes_test test v up (Closed credit) = false

abbrev pub PassesAt : NodesView → Place → (Spot → Bool) → Bool → Type 0
PassesAt nodes a test result =
    (read : Reading) (v : Level) (up : List Level) (was : Status) → place_at v ≡ a → IsTableOf nodes read (plug (v ∷ up) was)
    → result ≡ passes_test test v up was

-- the entries to the right of a place on these levels, and how many nodes there are
abbrev pub spots_right : List Level → Status → List Spot
spots_right [] was = []
spots_right (v ∷ up) was = pending_among up v.number v.kind ((v.spent, was) ∷ v.left) v.right ++ spots_right up (Inner (level_node v was))

abbrev pub nodes_right : List Level → ℕ
nodes_right [] = 0
nodes_right (v ∷ up) = nodes_among v.right + nodes_right up

-- from an alternative of a node on: the first entry that passes_test is here or further right, where at most so many nodes are
pub record IsAheadIn (test : Spot → Bool) (root : Status) (n i most : ℕ) : Type 0 where
  pub up : List Level
  pub kind : Kind
  pub left : List (ℕ × Status)
  pub right : Alternatives
  pub same : root ≡ plug up (Inner (Numbered n kind (put_left left right)))
  pub index : length left ≡ i
  pub first : find test (pending_of root)
      ≡ find test (pending_among up n kind left right ++ spots_right up (Inner (Numbered n kind (put_left left right))))
  pub nodes : nodes_among right + nodes_right up ≤ most

abbrev pub IsAheadFrom : NodesView → (Spot → Bool) → ℕ → ℕ → ℕ → Type 0
IsAheadFrom nodes test n i most = (read : Reading) (root : Status) → IsTableOf nodes read root → IsAheadIn test root n i most

-- one node less is ahead below a node that is entered
abbrev pub IsEntered : NodesView → (Spot → Bool) → ℕ → ℕ → Type 0
IsEntered nodes test n most =
    (read : Reading) (root : Status) → IsTableOf nodes read root → (0 < most) × IsAheadIn test root n 0 (most - 1)

-- nothing is left of a node
pub record IsAlternativePassed (nodes : NodesView) (test : Spot → Bool) (n most : ℕ) : Type 0 where
  pub index : ℕ
  pub last : length (alternatives_at (row_of_node nodes.rows n)) ≤ index
  pub ahead : IsAheadFrom nodes test n index most

abbrev pub TurnLeadsTo : NodesView → (Spot → Bool) → ℕ → ℕ → Turn → Type 0
TurnLeadsTo nodes test n most (Found at) = IsFirstEntry test nodes (Some (place_view at))
TurnLeadsTo nodes test n most (Down below) = IsEntered nodes test below most
TurnLeadsTo nodes test n most Up = IsAlternativePassed nodes test n most

-- what is found or entered is there, and further down
abbrev pub IsTurnIn : Rows → ℕ → Turn → Type 0
IsTurnIn rows n (Found at) = IsSome (cell_at rows (place_view at))
IsTurnIn rows n (Down below) = IsSome (row_of_node rows below) × (n < below)
IsTurnIn rows n Up = Unit {0}

-- a node to begin at; none where no node is there
abbrev pub IsWalkStart : NodesView → (Spot → Bool) → Option ℕ → Type 0
IsWalkStart nodes test None = nodes.first ≡ None
IsWalkStart nodes test (Some n) = IsAheadFrom nodes test n 0 nodes.live
