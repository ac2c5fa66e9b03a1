-- Solutions as branches of a node: the clauses that clause/2 and retract/1 may give (ISO/IEC 13211-1, 8.8.1 and 8.9.3), and the
-- operators that current_op/3 may (8.14.4).
use Rattle.std.specs.Prelude.{◌≡◌, ◌⊎◌, ℕ, List, [], ◌∷◌, ◌++◌, Option, Some, None}
use Rattle.au_model.specs.Terms.Unifier.{unifier}
use Rattle.clause_compile.specs.CompiledClauses.{goal_items}
use Rattle.clause_compile.specs.declared.event.Branch.{Branch}
use Rattle.clause_compile.specs.declared.item.Item.{Item}
use Rattle.clause_compile.specs.declared.item.Item.TheVariants.{Remove}
use Rattle.clause_compile.specs.declared.item.Scope.TheVariants.{Node}
use Rattle.branch_shapes.specs.RestBodies.{quiet_segment}
use Rattle.region_split.specs.Regions.{RegionView}
use Rattle.region_split.specs.Solutions.{SolutionView}
use Rattle.region_split.specs.StackOperations.{solution_here}
use Rattle.tree_nodes.specs.Bodies.{Body, ChoiceBody}
use Rattle.front_goals.specs.SolvedSolutions.{SolvesBy}

-- the removal of a clause, if one is named
abbrev pub clause_removal : Option ℕ → List Item
clause_removal None = []
clause_removal (Some number) = Remove (record { 0 = number }) ∷ []

-- the goals of a solution, which cut to a node, then the removal of its clause, then what follows
abbrev pub solution_items : ℕ → SolutionView → List Item → List Item
solution_items node solution follows = goal_items (Node node) solution.goals ++ (clause_removal solution.removes ++ follows)

-- a branch has what a solution leaves, with a segment that leads to it
pub record IsSolutionBranch (r : RegionView) (node : ℕ) (follows : List Item) (solution : SolutionView) (branch : Branch) : Type 0 where
  pub solves : SolvesBy r solution branch.segment
  pub goals : branch.goals ≡ solution_items node solution follows

-- where its equations unify
abbrev pub IsSolutionBranchOr : RegionView → ℕ → List Item → SolutionView → Option Branch → Type 0
IsSolutionBranchOr r node follows solution None = unifier (solution_here r solution).equations ≡ None
IsSolutionBranchOr r node follows solution (Some branch) = IsSolutionBranch r node follows solution branch

-- a branch comes first, before others
pub record BeginsWith (Own : Branch → Type 0) (Others : List Branch → Type 0) (branches : List Branch) : Type 0 where
  pub branch : Branch
  pub others : List Branch
  pub are : branches ≡ branch ∷ others
  pub own : Own branch
  pub rest : Others others

-- branches for solutions, in their order: one for each whose equations unify
abbrev pub AreSolutionBranches : RegionView → ℕ → List Item → List SolutionView → List Branch → Type 0
AreSolutionBranches r node follows [] branches = branches ≡ []
AreSolutionBranches r node follows (s ∷ solutions) branches =
    ((unifier (solution_here r s).equations ≡ None) × AreSolutionBranches r node follows solutions branches)
    ⊎ BeginsWith (IsSolutionBranch r node follows s) (AreSolutionBranches r node follows solutions) branches

-- a body has these branches, and does nothing else
pub record HasBranches (next : ℕ) (branches : List Branch) (body : Body) : Type 0 where
  pub kind : body.kind ≡ ChoiceBody
  pub segment : body.segment ≡ quiet_segment next
  pub branches_are : body.branches ≡ branches
