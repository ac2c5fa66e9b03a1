-- What nodes are made from, and how their alternatives begin.
use Rattle.std.specs.Prelude.{◌≡◌, ℕ, suc, ◌==◌, nat_le, ◌&&◌, Bool, true, false, cond, List, [], ◌∷◌, length}
use Rattle.std.specs.Arc.{arc_value}
use Rattle.au_term.specs.Term.{Term}
use Rattle.au_term.specs.declared.segment.Segment.{Segment}
use Rattle.clause_compile.specs.declared.event.Branch.{Branch}
use Rattle.run_model.specs.Machine.Entries.{Entry}
use Rattle.tree_model.specs.Nodes.{Kind, ChoiceNode, CatchNode, FindallNode, QueryNode, Hold, Ready, Dormant, Node, Numbered}
use Rattle.tree_model.specs.Nodes.{Alternatives, none, alternative, Pending}
use Rattle.tree_nodes.specs.declared.body.NodeKind.{NodeKind}
use Rattle.tree_nodes.specs.declared.body.NodeKind.TheVariants.{Choice, Condition, Catch, Findall, Query}
use Rattle.tree_nodes.specs.declared.body.NodeBody.{NodeBody}

pub data BodyKind : Type 0 where
  ChoiceBody : BodyKind
  ConditionBody : BodyKind
  -- what is caught, and the recovery
  CatchBody : Term → Term → BodyKind
  -- the results so far, and what their list is unified with
  FindallBody : List Term → Term → BodyKind
  QueryBody : BodyKind

pub record Body : Type 0 where
  pub segment : Segment
  pub branches : List Branch
  pub kind : BodyKind

abbrev pub kind_view : NodeKind → BodyKind
kind_view Choice = ChoiceBody
kind_view Condition = ConditionBody
kind_view (Catch catcher recovery) = CatchBody catcher recovery
kind_view (Findall results list) = FindallBody results.items list
kind_view Query = QueryBody

abbrev pub body_view : NodeBody → Body
body_view b = record { segment = arc_value b.segment; branches = b.branches.items; kind = kind_view b.kind }

-- the branches of a condition are those of a choice
abbrev pub node_kind : BodyKind → Kind
node_kind ChoiceBody = ChoiceNode
node_kind ConditionBody = ChoiceNode
node_kind (CatchBody catcher recovery) = CatchNode
node_kind (FindallBody results list) = FindallNode
node_kind QueryBody = QueryNode

-- whether the second alternative sleeps while the first is open
abbrev pub guards_kind : BodyKind → Bool
guards_kind ChoiceBody = false
guards_kind ConditionBody = false
guards_kind (CatchBody catcher recovery) = true
guards_kind (FindallBody results list) = true
guards_kind QueryBody = true

-- at least one branch, and two where the second sleeps
abbrev pub is_whole : Body → Bool
is_whole b = cond (guards_kind b.kind) (length b.branches == 2) (nat_le 1 (length b.branches))

abbrev pub IsWhole : Body → Type 0
IsWhole b = is_whole b ≡ true

-- how the alternative with this index begins
abbrev pub first_hold : BodyKind → ℕ → Hold
first_hold kind i = cond (guards_kind kind && (i == 1)) Dormant Ready

-- the branches on the way down to an alternative, the innermost first: a body, and the index of the branch
abbrev pub Branching : Type 0
Branching = List (Body × ℕ)

-- an entry for each branch, by the way down to it
abbrev pub Reading : Type 0
Reading = Branching → Entry

-- the alternatives of a new node, one for each branch from an index on
abbrev pub new_alternatives : Reading → Branching → Body → ℕ → List Branch → Alternatives
new_alternatives read way body i [] = none
new_alternatives read way body i (b ∷ bs) = alternative 0 (Pending (first_hold body.kind i) (read ((body, i) ∷ way)))
    (new_alternatives read way body (suc i) bs)

abbrev pub new_node : Reading → Branching → ℕ → Body → Node
new_node read way n body = Numbered n (node_kind body.kind) (new_alternatives read way body 0 body.branches)
