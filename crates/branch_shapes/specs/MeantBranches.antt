-- Branches whose goals are items that cut to choice points, with the nodes that these become as their scopes.
use Rattle.std.specs.Prelude.{◌≡◌, ℕ, true, List, length, Some, slice_get}
use Rattle.au_model.specs.Terms.Each.{Each}
use Rattle.au_model.specs.Terms.Named.{NamedTerm}
use Rattle.au_model.specs.Terms.Substitutions.{Substitution}
use Rattle.clause_compile.specs.declared.event.Branch.{Branch}
use Rattle.run_model.specs.Machine.Entries.{Entry}
use Rattle.run_model.specs.Machine.Items.{Item, Continuation, resolve_continuation}
use Rattle.tree_model.specs.Levels.{Level}
use Rattle.tree_model.specs.Shapes.{placed_scope}
use Rattle.tree_nodes.specs.Bodies.{BodyKind, Body}
use Rattle.branch_reading.specs.SettledWays.{is_branch_settled}
use Rattle.branch_reading.specs.Readings.{items_meant, entry_beside}
use Rattle.branch_shapes.specs.Groups.{Groups, node_sizes}
use Rattle.branch_shapes.specs.GroupLaws.{HasWholeCuts}
use Rattle.branch_shapes.specs.ChoiceScopes.{IsOverChoices, items_by_heights, items_by_nodes}
use Rattle.branch_shapes.specs.ExtendedWays.{LeadsOn, number_after}
use Rattle.branch_shapes.specs.ShownBodies.{BranchShows}

-- where a run's entries become nodes: the groups that are left, the levels of its branch, the number of the first new node, and the terms
-- of the query's named variables before anything is bound
pub record Placement : Type 0 where
  pub groups : Groups
  pub levels : List Level
  pub number : ℕ
  pub named : List NamedTerm

abbrev pub floor_in : Placement → ℕ
floor_in p = length p.levels

-- a scope that is a height, as a node
abbrev pub scope_in : Placement → ℕ → ℕ
scope_in p = placed_scope p.number (node_sizes p.groups) p.levels

-- items before a next number, with scopes by heights
abbrev pub continuation_in : Placement → ℕ → List (Item ℕ) → Continuation ℕ
continuation_in p next items = record { items = items_by_heights (floor_in p) p.groups items; named = p.named; next = next }

-- from what was bound before it the segment of a branch leads on, and its goals are items for which this entry stands, at a kind of
-- body by the branch's number
pub record GoalsMean (p : Placement) (before : Substitution) (next : ℕ) (kind : BodyKind) (i : ℕ) (branch : Branch) (e : Entry) : Type 0 where
  pub now : Substitution
  pub items : List (Item ℕ)
  pub leads : LeadsOn before now next branch.segment
  pub below : is_branch_settled (number_after branch.segment) kind i branch.goals ≡ true
  pub over : Each (IsOverChoices (floor_in p) p.groups) items
  pub goals : items_meant branch.goals ≡ items_by_nodes p.number p.levels p.groups items
  pub means : e ≡ entry_beside kind i now (resolve_continuation now (continuation_in p (number_after branch.segment) items))

-- a branch of a body does, where its body's bindings have come to
pub record BranchMeans (p : Placement) (there : Substitution) (b : Body) (i : ℕ) (e : Entry) : Type 0 where
  pub branch : Branch
  pub is : slice_get b.branches i ≡ Some branch
  pub goals : GoalsMean p there (number_after b.segment) b.kind i branch e

-- it shows the entry among the nodes that the groups become
abbrev pub MeantBranchesShow : Type 0
MeantBranchesShow = (p : Placement) (there : Substitution) (b : Body) (i : ℕ) (e : Entry) → BranchMeans p there b i e
    → BranchShows p.named (scope_in p) there b i e

-- and no cut of it splits a group
abbrev pub MeantEntriesAreWhole : Type 0
MeantEntriesAreWhole = (p : Placement) (there : Substitution) (b : Body) (i : ℕ) (e : Entry) → BranchMeans p there b i e
    → HasWholeCuts (floor_in p) p.groups e
