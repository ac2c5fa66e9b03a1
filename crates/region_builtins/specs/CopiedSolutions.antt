-- Solutions whose terms are copied in.
use Rattle.std.specs.Prelude.{map}
use Rattle.au_term.specs.Term.{Term}
use Rattle.run_model.specs.Goals.Outcomes.{Solution}
use Rattle.region_split.specs.Solutions.{SolutionView}
use Rattle.region_split.specs.declared.solution.Equation.{Equation}
use Rattle.region_split.specs.declared.solution.EquationSide.TheVariants.{Copied}

abbrev pub copied_equation : Term × Term → Equation
copied_equation e = record { left = Copied e.0; right = Copied e.1 }

abbrev pub copied_solution : Solution → SolutionView
copied_solution s = record { equations = map copied_equation s.equations; goals = s.goals; removes = s.removes; variables = s.variables }
