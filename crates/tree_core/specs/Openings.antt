-- A tree that is opened for a job.
use Rattle.std.specs.Prelude.{◌≡◌, ℕ, List, [], ◌∷◌, Option, Some, None}
use Rattle.run_model.specs.Programs.Jobs.{Query, query_bound}
use Rattle.tree_nodes.specs.Bodies.{Body}
use Rattle.branch_reading.specs.QueryNodes.{goals_in, MakesQueryNode}
use Rattle.tree_core.specs.declared.query.QueryGoals.{QueryGoals}

-- the goals of a query in a node of this number
pub record IsQueryAt (n : ℕ) (q : Query) (given : QueryGoals) : Type 0 where
  pub goals : given.goals ≡ goals_in n q.goals
  pub vars : given.vars ≡ query_bound q

-- the first one of these, if there is one
abbrev pub IsFirstOf : List Query → Option QueryGoals → Type 0
IsFirstOf [] None = Unit {0}
IsFirstOf [] (Some given) = ⊥
IsFirstOf (q ∷ qs) None = ⊥
IsFirstOf (q ∷ qs) (Some given) = IsQueryAt 0 q given

-- from which its node is made
abbrev pub IsMadeFirst : Option QueryGoals → Option Body → Type 0
IsMadeFirst None None = Unit {0}
IsMadeFirst None (Some body) = ⊥
IsMadeFirst (Some given) None = ⊥
IsMadeFirst (Some given) (Some body) = MakesQueryNode given.goals given.vars body
