-- The way up from an alternative, place by place, and what the nodes on it were made from.
use Rattle.std.specs.Prelude.{◌≡◌, ◌<◌, ℕ, Bool, true, false, List, [], ◌∷◌, ◌++◌, map, reverse, take, Option, Some, None, is_some, slice_get}
use Rattle.au_model.specs.Terms.Each.{Each}
use Rattle.au_term.specs.declared.segment.Segment.{Segment}
use Rattle.clause_compile.specs.declared.item.Item.{Item}
use Rattle.tree_model.specs.Levels.{Level, Place, plug, place_at}
use Rattle.tree_model.specs.Nodes.{Status}
use Rattle.tree_nodes.specs.Bodies.{Body, BodyKind, ChoiceBody, ConditionBody, CatchBody, FindallBody, QueryBody, Branching, Reading}
use Rattle.tree_nodes.specs.Rows.{StoredNode, Rows, row_of_node}
use Rattle.tree_nodes.specs.TreeTables.{NodesView, IsTableOf, IsBelow, IsWayTo, stored_body}
use Rattle.branch_reading.specs.BranchSegments.{next_number, own_segments, segments_on}
use Rattle.branch_reading.specs.SettledWays.{branch_items}

-- a node's place, and what is above it: its parent, whose number is smaller
pub record IsStepUp (rows : Rows) (p : Place) (above : Option Place) : Type 0 where
  pub row : StoredNode
  pub is : row_of_node rows p.node ≡ Some row
  pub parent : row.parent ≡ above
  pub below : IsBelow above p.node

-- from one place up to another, each the one above that before it; none is above a node without a parent
abbrev pub LeadsUp : Rows → List Place → Option Place → Option Place → Type 0
LeadsUp rows [] from to = from ≡ to
LeadsUp rows (p ∷ places) from to = (from ≡ Some p) × ((above : Option Place) × (IsStepUp rows p above × LeadsUp rows places above to))

-- up from a place to the top
abbrev pub AreAllUp : Rows → Place → List Place → Type 0
AreAllUp rows a places = LeadsUp rows places (Some a) None

abbrev pub missing_body : Body
missing_body = record { segment = record { base = 0; vars = 0; bindings = [] }; branches = []; kind = ChoiceBody }

-- what the node of a place was made from
abbrev pub body_at : Rows → Place → Body
body_at rows p = stored_body missing_body (row_of_node rows p.node)

-- the branches at places
abbrev pub branching_at : Rows → List Place → Branching
branching_at rows places = map (λ p. (body_at rows p, p.index)) places

-- and their segments, above others
abbrev pub segments_above : Rows → Place → List Segment → List Segment
segments_above rows p above = own_segments (slice_get (body_at rows p).branches p.index) ++ (body_at rows p).segment ∷ above

abbrev pub segments_at : Rows → List Place → List Segment
segments_at rows [] = []
segments_at rows (p ∷ places) = segments_above rows p (segments_at rows places)

-- what an alternative has left to do, and its next variable number
abbrev pub items_at_place : Rows → Place → List Item
items_at_place rows a = branch_items (slice_get (body_at rows a).branches a.index)

abbrev pub number_left : Rows → Place → ℕ
number_left rows a = next_number (segments_at rows (a ∷ []))

abbrev pub is_query_body : BodyKind → Bool
is_query_body ChoiceBody = false
is_query_body ConditionBody = false
is_query_body (CatchBody catcher recovery) = false
is_query_body (FindallBody results list) = false
is_query_body QueryBody = true

-- so many places, the innermost ones, are those from the query on
abbrev pub IsQueryPart : Rows → List Place → ℕ → Type 0
IsQueryPart rows places n = segments_on (branching_at rows places) ≡ segments_at rows (take n places)

-- up from a place as far as below another one, which is there
pub record LeadsBelow (rows : Rows) (places : List Place) (a above : Place) : Type 0 where
  pub leads : LeadsUp rows places (Some a) (Some above)
  pub there : is_some (row_of_node rows above.node) ≡ true

-- no query begins at these places
abbrev pub HaveNoQuery : Rows → List Place → Type 0
HaveNoQuery rows places = Each (λ p. is_query_body (body_at rows p).kind ≡ false) places

-- each is at a node that is there
abbrev pub AreAtNodes : Rows → List Place → Type 0
AreAtNodes rows places = Each (λ p. is_some (row_of_node rows p.node) ≡ true) places

-- numbers fall on the way up
abbrev pub AreFallingPlaces : List Place → Type 0
AreFallingPlaces [] = Unit {0}
AreFallingPlaces (p ∷ places) = Each (λ q. q.node < p.node) places × AreFallingPlaces places

-- the numbers of nodes at places, the outermost first
abbrev pub AreNumbersOf : List Place → List ℕ → Type 0
AreNumbersOf places numbers = numbers ≡ reverse (map (λ (p : Place). p.node) places)

-- those on the way up from a place
pub record AreNumbersUp (rows : Rows) (a : Place) (numbers : List ℕ) : Type 0 where
  pub places : List Place
  pub up : AreAllUp rows a places
  pub are : AreNumbersOf places numbers

-- the places up from an alternative of a tree are those of its levels
pub record AreItsLevels (rows : Rows) (levels : List Level) (way : Branching) (places : List Place) : Type 0 where
  pub levels_are : places ≡ map place_at levels
  pub way_is : branching_at rows places ≡ way

abbrev pub PlacesAreLevels : Type 0
PlacesAreLevels =
    (nodes : NodesView) (read : Reading) (v : Level) (up : List Level) (was : Status) (way : Branching) (places : List Place)
    → IsTableOf nodes read (plug (v ∷ up) was) → IsWayTo nodes.rows (v ∷ up) way → AreAllUp nodes.rows (place_at v) places
    → AreItsLevels nodes.rows (v ∷ up) way places
