-- Solutions of goals for which no clauses of the text are tried, as values and terms.
use Rattle.std.specs.Prelude.{◌≤◌, ℕ, ◌+◌, List, map, Option}
use Rattle.au_term.specs.Term.{Term, var_bound}
use Rattle.au_model.specs.Terms.Each.{Each}
use Rattle.au_model.specs.Terms.Substitutions.{Substitution, resolve}
use Rattle.run_model.specs.Goals.Outcomes.{Solution}
use Rattle.clause_compile.specs.Places.{CodeView}
use Rattle.binding_array.specs.Represented.{cell_term}
use Rattle.cell_store.specs.Values.{IsValue}
use Rattle.region_split.specs.declared.solution.EquationSide.{EquationSide}
use Rattle.region_split.specs.declared.solution.EquationSide.TheVariants.{Value, Copied}
use Rattle.region_split.specs.declared.solution.Equation.{Equation}

-- its equations, the goals that are left, the clause that is removed, and how many new variables it takes
pub record SolutionView : Type 0 where
  pub equations : List Equation
  pub goals : List Term
  pub removes : Option ℕ
  pub variables : ℕ

abbrev pub side_term : CodeView → EquationSide → Term
side_term code (Value value) = cell_term code value
side_term code (Copied term) = term

-- what it stands for, where this is bound
abbrev pub equation_meant : CodeView → Substitution → Equation → Term × Term
equation_meant code s e = (resolve s (side_term code e.left), resolve s (side_term code e.right))

abbrev pub solution_at : CodeView → Substitution → SolutionView → Solution
solution_at code s solution = record { equations = map (equation_meant code s) solution.equations; goals = map (resolve s) solution.goals; removes = solution.removes; variables = solution.variables }

-- values are there, and terms have no variables but those and the new ones
abbrev pub IsSideAt : CodeView → ℕ → ℕ → EquationSide → Type 0
IsSideAt code next more (Value value) = IsValue code next value
IsSideAt code next more (Copied term) = var_bound term ≤ more

abbrev pub IsEquationAt : CodeView → ℕ → ℕ → Equation → Type 0
IsEquationAt code next more e = IsSideAt code next more e.left × IsSideAt code next more e.right

abbrev pub IsSolutionAt : CodeView → ℕ → SolutionView → Type 0
IsSolutionAt code next solution = Each (IsEquationAt code next (next + solution.variables)) solution.equations × Each (λ t. var_bound t ≤ next + solution.variables) solution.goals
