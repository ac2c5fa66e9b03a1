-- Solutions where terms are made later.
use Rattle.std.proofs.Common.{◌≡◌, ℕ, ◌+◌, List, [], ◌∷◌, map, refl, ap₂}
use Rattle.au_term.specs.Term.{Term}
use Rattle.au_model.specs.Terms.Each.{Each}
use Rattle.au_model.specs.Terms.Substitutions.{Substitution, resolve}
use Rattle.au_model.specs.Terms.Unifier.{Equations}
use Rattle.au_model.proofs.EachLemmas.{each-more}
use Rattle.run_model.specs.Goals.Outcomes.{Solution}
use Rattle.clause_compile.specs.Places.{CodeView, Keeps}
use Rattle.cell_store.proofs.SubstitutionLemmas.{value_kept}
use Rattle.region_split.specs.Solutions.{SolutionView, side_term, equation_meant, solution_at, IsSideAt, IsEquationAt, IsSolutionAt}
use Rattle.region_split.specs.declared.solution.EquationSide.{EquationSide}
use Rattle.region_split.specs.declared.solution.EquationSide.TheVariants.{Value, Copied}
use Rattle.region_split.specs.declared.solution.Equation.{Equation}

module _ (old new : CodeView) (next : ℕ) (keeps : Keeps old new) where
  side_there : (more : ℕ) (side : EquationSide) → IsSideAt old next more side → IsSideAt new next more side
  side_there more (Value value) v = (value_kept old new next value keeps v).0
  side_there more (Copied term) v = v

  pub same_side : (more : ℕ) (side : EquationSide) → IsSideAt old next more side → side_term new side ≡ side_term old side
  same_side more (Value value) v = (value_kept old new next value keeps v).1
  same_side more (Copied term) v = refl

  pub solution_there : (solution : SolutionView) → IsSolutionAt old next solution → IsSolutionAt new next solution
  solution_there solution v =
      let more = next + solution.variables in
      (each-more (IsEquationAt old next more) (IsEquationAt new next more) (λ e there. (side_there more e.left there.0, side_there more e.right there.1)) solution.equations v.0, v.1)

  pub same_equations : (s : Substitution) (more : ℕ) (es : List Equation) → Each (IsEquationAt old next more) es → map (equation_meant new s) es ≡ map (equation_meant old s) es
  same_equations s more [] v = refl
  same_equations s more (e ∷ es) v =
      ap₂ (λ (p : Term × Term) ps. p ∷ ps) (ap₂ (λ t u. (resolve s t, resolve s u)) (same_side more e.left v.0.0) (same_side more e.right v.0.1)) (same_equations s more es v.1)

  pub solutions_same : (s : Substitution) (left : List SolutionView) → Each (IsSolutionAt old next) left → map (solution_at new s) left ≡ map (solution_at old s) left
  solutions_same s [] v = refl
  solutions_same s (x ∷ left) v =
      ap₂ (λ (es : Equations) xs. (let y : Solution = record { equations = es; goals = map (resolve s) x.goals; removes = x.removes; variables = x.variables } in y) ∷ xs) (same_equations s (next + x.variables) x.equations v.0.0) (solutions_same s left v.1)
