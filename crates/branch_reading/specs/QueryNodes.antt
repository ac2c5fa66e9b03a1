-- The nodes of queries.
use Rattle.std.specs.Prelude.{◌≡◌, ℕ, List, [], ◌∷◌, map, Some, None, slice_get}
use Rattle.au_term.specs.Term.{Term}
use Rattle.run_model.specs.Programs.Jobs.{Query, Job, query_bound}
use Rattle.clause_compile.specs.declared.item.Item.{Item as BranchItem}
use Rattle.clause_compile.specs.declared.item.Item.TheVariants.{Goal, End}
use Rattle.clause_compile.specs.declared.item.Scope.TheVariants.{Node}
use Rattle.tree_model.specs.Levels.{Place}
use Rattle.tree_model.specs.TreeStates.{opened_node}
use Rattle.tree_nodes.specs.Bodies.{Body, QueryBody, Branching, new_node}
use Rattle.tree_nodes.specs.Rows.{StoredNode, Rows, row_of_node}
use Rattle.tree_closing.specs.Closings.{ReadsWoken}
use Rattle.branch_reading.specs.SettledWays.{branch_items}
use Rattle.branch_reading.specs.Readings.{queries_on, reading}

-- goals in which a cut cuts to this node
abbrev pub goals_in : ℕ → List Term → List BranchItem
goals_in n gs = map (λ g. Goal g (Node n)) gs

-- below a branch on which all queries before it have ended, a node of these goals and so many variables is that of its query
abbrev pub MakesQueryNode : List BranchItem → ℕ → Body → Type 0
MakesQueryNode goals vars body =
    (job : Job) (way : Branching) (n : ℕ) (q : Query) → slice_get job.queries (queries_on way) ≡ Some q
    → goals ≡ goals_in n q.goals → vars ≡ query_bound q → new_node (reading job) way n body ≡ opened_node n q

-- the second branch of a query's node is its end
pub record IsQueryBody (body : Body) : Type 0 where
  pub kind : body.kind ≡ QueryBody
  pub ends : branch_items (slice_get body.branches 1) ≡ End None ∷ []

-- what sleeps at a node is the end of a query
abbrev pub IsEndAsleep : Rows → Place → Type 0
IsEndAsleep rows a = (r : StoredNode) → row_of_node rows a.node ≡ Some r → IsQueryBody r.body

-- a body that reads as the end of a query, which wakes
abbrev pub ReadsAsEnd : Body → Type 0
ReadsAsEnd body = (job : Job) (rows : Rows) (a : Place) (records : List Term) → IsEndAsleep rows a → ReadsWoken (reading job) rows a records body
