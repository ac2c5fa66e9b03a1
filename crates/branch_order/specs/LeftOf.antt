-- What is to the left of an alternative, in the table and in the tree.
use Rattle.std.specs.Prelude.{◌≡◌, ℕ, suc, Bool, true, false, List, [], ◌∷◌, Option, Some, None, Result, Ok, Err, take}
use Rattle.clause_compile.specs.declared.item.Scope.{Scope}
use Rattle.tree_model.specs.declared.places.AltRef.{AltRef}
use Rattle.tree_model.specs.EventViews.{place_view}
use Rattle.std.specs.Option.{option_map}
use Rattle.tree_model.specs.Nodes.{Status}
use Rattle.tree_model.specs.Levels.{Level, plug, Place, place_at}
use Rattle.tree_model.specs.Orders.{is_node, levels_below, first_open}
use Rattle.tree_nodes.specs.declared.front.Front.{Front}
use Rattle.tree_nodes.specs.Bodies.{Reading}
use Rattle.tree_nodes.specs.Rows.{AlternativeCell, Rows, row_of_node, alternatives_at, scope_number}
use Rattle.tree_nodes.specs.Gathering.{is_shut}
use Rattle.tree_nodes.specs.Fronts.{place_on}
use Rattle.tree_nodes.specs.TreeTables.{NodesView, IsTableOf}

-- the first of these that has not closed, by its index from this one on
abbrev pub first_at : Bool → ℕ → Option ℕ → Option ℕ
first_at true i others = others
first_at false i others = Some i

abbrev pub open_index : ℕ → List (ℕ × AlternativeCell) → Option ℕ
open_index i [] = None
open_index i (c ∷ cells) = first_at (is_shut c.1) i (open_index (suc i) cells)

-- the leftmost alternative left of a place at its node that has not closed
abbrev pub open_beside : Rows → Place → Option Place
open_beside rows a = option_map (place_on a.node) (open_index 0 (take a.index (alternatives_at (row_of_node rows a.node))))

-- the leftmost left of a place below a node, or in the whole tree, that has not closed
abbrev pub IsFirstOpen : NodesView → Place → Option ℕ → Option Place → Type 0
IsFirstOpen nodes a scope result =
    (read : Reading) (v : Level) (up : List Level) (was : Status) → place_at v ≡ a → IsTableOf nodes read (plug (v ∷ up) was)
    → first_open (levels_below scope (v ∷ up)) ≡ result

abbrev pub or_else : Option Place → Option Place → Option Place
or_else (Some a) b = Some a
or_else None b = b

abbrev pub if_below : Bool → Place → Option Place
if_below true a = None
if_below false a = Some a

-- a place, where its node is not the scope
abbrev pub below_scope : Option ℕ → Option Place → Option Place
below_scope scope None = None
below_scope scope (Some a) = if_below (is_node scope a.node) a

-- the answer of a test for what is open to the left
abbrev pub IsCleared : NodesView → Place → Scope → Result (Unit {0}) AltRef → Type 0
IsCleared nodes a scope (Ok done) = IsFirstOpen nodes a (Some (scope_number scope)) None
IsCleared nodes a scope (Err left) = IsFirstOpen nodes a (Some (scope_number scope)) (Some (place_view left))

-- the leftmost alternative of a node that has not closed
abbrev pub open_first : Rows → ℕ → Option Place
open_first rows n = option_map (place_on n) (open_index 0 (alternatives_at (row_of_node rows n)))

abbrev pub IsOn : ℕ → Option Place → Type 0
IsOn n None = Unit {0}
IsOn n (Some a) = a.node ≡ n

-- a front, where it is at a node
abbrev pub IsAtFront : Option Front → ℕ → Option Front → Type 0
IsAtFront front n None = Unit {0}
IsAtFront front n (Some e) = (front ≡ Some e) × (e.node ≡ n)
