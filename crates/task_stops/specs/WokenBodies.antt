-- What wakes beside an alternative that has closed, as the body of a node of one branch.
use Rattle.std.specs.Prelude.{◌≡◌, ℕ, ◌+◌, true, List, [], ◌∷◌, Option, Some, slice_get}
use Rattle.au_term.specs.Term.{Term}
use Rattle.clause_compile.specs.declared.event.Branch.{Branch}
use Rattle.clause_compile.specs.declared.item.Item.{Item as BranchItem}
use Rattle.run_model.specs.Programs.Jobs.{Job}
use Rattle.tree_model.specs.EventViews.{place_view}
use Rattle.tree_model.specs.Levels.{Place}
use Rattle.tree_model.specs.Nodes.{Status}
use Rattle.tree_model.specs.NumberedTrees.{IsNumberedStatus}
use Rattle.tree_model.specs.SoundTrees.{IsSound}
use Rattle.tree_nodes.specs.Bodies.{Body, BodyKind, ChoiceBody, ConditionBody, CatchBody, FindallBody, QueryBody}
use Rattle.tree_nodes.specs.Rows.{StoredNode, Rows, row_of_node, credit_view}
use Rattle.tree_nodes.specs.TreeTables.{NodesView, IsTableOf}
use Rattle.tree_closing.specs.Closings.{is_waking}
use Rattle.tree_closing.specs.declared.way_up.Closing.{Closing}
use Rattle.branch_reading.specs.Readings.{reading}
use Rattle.public_tree.specs.PublicClosing.{IsBodyGiven, ReadsAs}
use Rattle.region_split.specs.ResultLists.{ResultsView}
use Rattle.task_stops.specs.GatheredResults.{gathered, unifying_item}

-- one branch that has goals and binds nothing, from one next variable number to another
abbrev pub quiet_body : ℕ → List BranchItem → ℕ → Body
quiet_body base goals next = record {
  segment = record { base = base; vars = 0; bindings = [] };
  branches = record { goals = goals; segment = record { base = next; vars = 0; bindings = [] } } ∷ [];
  kind = ChoiceBody;
}

-- what is left to do on a branch, from its next variable number on
abbrev pub same_body : Branch → Body
same_body b = let next = b.segment.base + b.segment.vars in quiet_body next b.goals next

-- the same behind the goal that unifies a list with results
abbrev pub following_body : ℕ → Term → Branch → ResultsView → Body
following_body n list b all = quiet_body (b.segment.base + b.segment.vars) (unifying_item n list all.terms ∷ b.goals) all.next

-- what sleeps at a node of a kind, as it goes on with records
abbrev pub woken_by : ℕ → List Term → BodyKind → Branch → Body
woken_by n records ChoiceBody b = same_body b
woken_by n records ConditionBody b = same_body b
woken_by n records (CatchBody catcher recovery) b = same_body b
woken_by n records (FindallBody results list) b =
    following_body n list b (gathered records (record { terms = results; next = b.segment.base + b.segment.vars }))
woken_by n records QueryBody b = same_body b

-- a body is made of what sleeps at a node
pub record IsMadeWoken (rows : Rows) (a : Place) (records : List Term) (body : Body) : Type 0 where
  pub row : StoredNode
  pub is : row_of_node rows a.node ≡ Some row
  pub second : Branch
  pub there : slice_get row.body.branches 1 ≡ Some second
  pub made : body ≡ woken_by a.node records row.body.kind second

-- no recovery sleeps at a node
abbrev pub IsNoCatch : Rows → Place → Type 0
IsNoCatch rows a = (row : StoredNode) → row_of_node rows a.node ≡ Some row → (catcher recovery : Term) → row.body.kind ≡ CatchBody catcher recovery → ⊥

-- a body is given where something wakes, and it reads as what wakes, in each tree of any job for which the nodes stand, and which is
-- as those of legal histories are
pub record IsGivenFor (nodes : NodesView) (closing : Closing) (body : Option Body) : Type 0 where
  pub given : IsBodyGiven closing.beside body
  pub reads : (job : Job) (root : Status) → IsTableOf nodes (reading job) root → IsSound [] root → IsNumberedStatus root
      → (is_waking closing.beside ≡ true → IsNoCatch nodes.rows (place_view closing.end))
      → ReadsAs (reading job) nodes.rows (place_view closing.end) (credit_view closing.credit).records (is_waking closing.beside) body
