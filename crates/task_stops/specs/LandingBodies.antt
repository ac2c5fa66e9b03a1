-- The body of what a ball leaves of a branch: the recovery of the catch that takes it, or the end of the query.
use Rattle.std.specs.Prelude.{◌≡◌, ℕ, ◌+◌, List, [], ◌∷◌, map, Option, Some, slice_get}
use Rattle.au_term.specs.Term.{Term}
use Rattle.au_term.specs.declared.segment.Segment.{Segment}
use Rattle.au_model.specs.Terms.Copies.{copied, copy_takes}
use Rattle.au_model.specs.Terms.MostGeneral.{SameValues}
use Rattle.au_model.specs.Terms.Substitutions.{Substitution}
use Rattle.cell_store.specs.StoreView.{IsComposition}
use Rattle.clause_compile.specs.declared.event.Branch.{Branch}
use Rattle.clause_compile.specs.declared.item.Item.{Item}
use Rattle.clause_compile.specs.declared.item.Item.TheVariants.{Goal, End}
use Rattle.clause_compile.specs.declared.item.Scope.TheVariants.{Node}
use Rattle.run_model.specs.Machine.Balls.{unwound}
use Rattle.run_model.specs.Machine.Entries.{Entry}
use Rattle.run_model.specs.Programs.Bodies.{call_of}
use Rattle.run_model.specs.Programs.Jobs.{Job}
use Rattle.tree_model.specs.Floors.{floor_of}
use Rattle.tree_model.specs.Gates.{ball_scope}
use Rattle.tree_model.specs.Levels.{Level, Place, plug, place_at}
use Rattle.tree_model.specs.Nodes.{Status}
use Rattle.tree_model.specs.NumberedTrees.{IsNumberedStatus}
use Rattle.tree_model.specs.SoundTrees.{IsSound}
use Rattle.tree_nodes.specs.Bodies.{Body, BodyKind, ChoiceBody, ConditionBody, CatchBody, FindallBody, QueryBody}
use Rattle.tree_nodes.specs.Rows.{Rows}
use Rattle.tree_nodes.specs.TreeTables.{NodesView, IsTableOf}
use Rattle.branch_reading.specs.BranchSegments.{bound_by, next_number, segments_on}
use Rattle.branch_reading.specs.Readings.{reading}
use Rattle.branch_shapes.specs.ExtendedWays.{LeadsOn, number_after}
use Rattle.public_tree.specs.PublicPruning.{ReadsAsFallen}
use Rattle.task_region.specs.PlacesUp.{body_at}
use Rattle.task_stops.specs.Landings.{landing, taken_on, way_beside}
use Rattle.task_stops.specs.BranchLandings.{height_of_mark, IsMarkOver}

-- the node above a place; no node has this number where none is
abbrev pub node_above : List Place → ℕ
node_above [] = 0
node_above (p ∷ above) = p.node

-- one branch with these goals and this segment, from a next variable number on
abbrev pub body_with : ℕ → Segment → List Item → Body
body_with next segment goals = record {
  segment = record { base = next; vars = 0; bindings = [] };
  branches = record { goals = goals; segment = segment } ∷ [];
  kind = ChoiceBody;
}

-- the recovery of a catch comes before what follows the catch, with the bindings by which it takes a copy of the ball
pub record IsRecoveryBody (rows : Rows) (p : Place) (above : List Place) (ball : Term) (body : Body) : Type 0 where
  pub catcher : Term
  pub recovery : Term
  pub kind : (body_at rows p).kind ≡ CatchBody catcher recovery
  pub second : Branch
  pub there : slice_get (body_at rows p).branches 1 ≡ Some second
  pub unifier : Substitution
  pub takes : taken_on (way_beside rows p above) catcher ball ≡ Some unifier
  pub before : Substitution
  pub same : SameValues (bound_by (segments_on (way_beside rows p above))) (Some before)
  pub after : Substitution
  pub composed : IsComposition before unifier after
  pub segment : Segment
  pub leads : LeadsOn before after (next_number (segments_on (way_beside rows p above))) segment
  pub numbers : number_after segment ≡ next_number (segments_on (way_beside rows p above)) + copy_takes ball
  pub made : body ≡ body_with (next_number (segments_on (way_beside rows p above))) segment (Goal (call_of recovery) (Node (node_above above)) ∷ second.goals)

-- the end of a query with a ball, its variables numbered from 0
pub record IsEndBody (ball : Term) (body : Body) : Type 0 where
  pub next : ℕ
  pub segment : Segment
  pub made : body ≡ body_with next segment (End (Some (copied ball 0)) ∷ [])

-- the node of the innermost query on the way up
abbrev pub query_or : BodyKind → ℕ → ℕ → ℕ
query_or ChoiceBody n further = further
query_or ConditionBody n further = further
query_or (CatchBody catcher recovery) n further = further
query_or (FindallBody results list) n further = further
query_or QueryBody n further = n

abbrev pub query_up : Rows → List Place → ℕ
query_up rows [] = 0
query_up rows (p ∷ above) = query_or (body_at rows p).kind p.node (query_up rows above)

-- the scope of a ball that lands so on the way up from places, and the body of what it leaves there
abbrev pub IsLandingBody : Rows → List Place → Term → List Place → ℕ → Body → Type 0
IsLandingBody rows places ball [] scope body = (scope ≡ query_up rows places) × IsEndBody ball body
IsLandingBody rows places ball (p ∷ above) scope body = (scope ≡ p.node) × IsRecoveryBody rows p above ball body

-- what a ball leaves of a branch
abbrev pub left_by_ball : Term → Option ℕ → List Level → List Entry
left_by_ball ball mark levels = unwound ball (height_of_mark levels mark) (floor_of levels)

-- in each sound tree for which the nodes stand, the body reads as that
pub record ReadsAsLanded (job : Job) (rows : Rows) (levels : List Level) (ball : Term) (mark : Option ℕ) (scope : ℕ) (body : Body) : Type 0 where
  pub scope_is : ball_scope levels (left_by_ball ball mark levels) ≡ scope
  pub reads : ReadsAsFallen (reading job) rows scope body levels (left_by_ball ball mark levels)

abbrev pub LandingsRead : Type 0
LandingsRead =
    (job : Job) (nodes : NodesView) (levels : List Level) (status : Status) (ball : Term) (mark : Option ℕ) (scope : ℕ) (body : Body)
    → IsTableOf nodes (reading job) (plug levels status) → IsSound [] (plug levels status) → IsNumberedStatus (plug levels status) → IsMarkOver levels mark
    → IsLandingBody nodes.rows (map place_at levels) ball (landing nodes.rows ball mark (map place_at levels)) scope body
    → ReadsAsLanded job nodes.rows levels ball mark scope body
