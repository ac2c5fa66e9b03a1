-- The solutions of operators in a region (ISO/IEC 13211-1, 8.14.4).
use Rattle.std.specs.Prelude.{◌≡◌, pos, [], ◌∷◌, None}
use Rattle.au_term.specs.Term.{IntTerm, AtomTerm, Terms, term_at}
use Rattle.au_model.specs.Syntax.Operators.{OperatorRow}
use Rattle.run_model.specs.Goals.OperatorGoals.{operator_solution, specifier_of}
use Rattle.run_model.specs.Goals.Outcomes.{Solution}
use Rattle.cell_store.specs.StoreView.{StoreView, IsValueIn, meaning}
use Rattle.region_split.specs.Solutions.{SolutionView}
use Rattle.region_split.specs.declared.solution.EquationSide.TheVariants.{Value, Copied}
use Rattle.region_world.specs.declared.rows.Asked.{Asked}

-- values that are there
abbrev pub AreAskedIn : StoreView → Asked → Type 0
AreAskedIn st asked = IsValueIn st asked.priority × IsValueIn st asked.specifier × IsValueIn st asked.name

-- these terms, one after another
abbrev pub AreAsked : StoreView → Terms → Asked → Type 0
AreAsked st ts asked = (meaning st asked.priority ≡ term_at 0 ts) × (meaning st asked.specifier ≡ term_at 1 ts) × (meaning st asked.name ≡ term_at 2 ts)

-- where what is asked for unifies with an operator
abbrev pub operator_unified : StoreView → Asked → OperatorRow → Solution
operator_unified st asked row = operator_solution (meaning st asked.priority) (meaning st asked.specifier) (meaning st asked.name) row

-- the same in a region
abbrev pub row_solution : Asked → OperatorRow → SolutionView
row_solution asked row = record {
  equations =
      record { left = Value asked.priority; right = Copied (IntTerm (pos row.operator.priority)) }
      ∷ record { left = Value asked.specifier; right = Copied (AtomTerm (specifier_of row.operator.kind)) }
      ∷ record { left = Value asked.name; right = Copied (AtomTerm row.name) }
      ∷ [];
  goals = [];
  removes = None;
  variables = 0;
}
