-- Bodies whose further branches mean the entries of a group.
use Rattle.std.specs.Prelude.{◌≡◌, ℕ, suc, true, List, [], ◌∷◌, length}
use Rattle.au_model.specs.Terms.Substitutions.{Substitution}
use Rattle.clause_compile.specs.declared.event.Branch.{Branch}
use Rattle.run_model.specs.Machine.Entries.{Entry}
use Rattle.tree_nodes.specs.Bodies.{BodyKind, Body, guards_kind}
use Rattle.branch_shapes.specs.ExtendedWays.{LeadsOn, number_after, IsNoQuery}
use Rattle.branch_shapes.specs.MeantBranches.{Placement, GoalsMean, BranchMeans}
use Rattle.branch_shapes.specs.ShownBodies.{BodyShows}

-- branches with numbers from one on, an entry for each
abbrev pub AlternativesMean : Placement → Substitution → ℕ → BodyKind → ℕ → List Branch → List Entry → Type 0
AlternativesMean p before next kind i [] [] = Unit {0}
AlternativesMean p before next kind i [] (e ∷ es) = ⊥
AlternativesMean p before next kind i (x ∷ branches) [] = ⊥
AlternativesMean p before next kind i (x ∷ branches) (e ∷ es) = GoalsMean p before next kind i x e × AlternativesMean p before next kind (suc i) branches es

-- behind its first branch a body has one for each entry of a group, and one alone where that is a guard
pub record BodyMeans (p : Placement) (next : ℕ) (before there : Substitution) (b : Body) (g : List Entry) : Type 0 where
  pub no_query : IsNoQuery b.kind
  pub guard : guards_kind b.kind ≡ true → length g ≡ 1
  pub first : Branch
  pub others : List Branch
  pub branches : b.branches ≡ first ∷ others
  pub leads : LeadsOn before there next b.segment
  pub further : AlternativesMean p there (number_after b.segment) b.kind 1 others g

abbrev pub MeantBodiesShow : Type 0
MeantBodiesShow = (p : Placement) (next : ℕ) (before there : Substitution) (b : Body) (g : List Entry) → BodyMeans p next before there b g
    → BodyShows (BranchMeans p) next before there b g
