-- Solutions that are tried for goals (ISO/IEC 13211-1, 7.8 and 7.10).
use Rattle.std.specs.Prelude.{◌≡◌, ℕ, List, ◌++◌, length, map, Bool, true, false, Option, Some, None}
use Rattle.au_model.specs.Terms.Each.{Each}
use Rattle.au_model.specs.Terms.Named.{NamedTerm}
use Rattle.au_model.specs.Terms.Substitutions.{Substitution}
use Rattle.au_model.specs.Terms.Unifier.{Equations, unifier}
use Rattle.run_model.specs.Goals.Outcomes.{Solutions}
use Rattle.run_model.specs.Machine.Heights.{after_reply}
use Rattle.clause_compile.specs.Places.{Keeps}
use Rattle.cell_store.specs.StoreView.{IsValueIn, IsComposition, text_in, value_term}
use Rattle.binding_array.specs.declared.cell.BindingCell.{BindingCell}
use Rattle.region_split.specs.Solutions.{SolutionView, equation_meant, IsSideAt, IsEquationAt}
use Rattle.region_split.specs.Regions.{RegionView, standing, entries_of, continuation_here}
use Rattle.region_split.specs.StackOperations.{StaysStanding, IsSolutionHere, solution_here, solved_entries}
use Rattle.region_split.specs.ClauseTrials.{entries_at, IsOptionalPosition}
use Rattle.region_split.specs.declared.frame.Position.{Position}
use Rattle.region_split.specs.declared.solution.EquationSide.{EquationSide}
use Rattle.region_split.specs.declared.solution.Equation.{Equation}

-- a side whose values are there now, and equations of such
abbrev pub IsSideHere : RegionView → EquationSide → Type 0
IsSideHere r side = IsSideAt (text_in r.store) r.store.now.next r.store.now.next side

abbrev pub AreEquationsHere : RegionView → List Equation → Type 0
AreEquationsHere r es = Each (IsEquationAt (text_in r.store) r.store.now.next r.store.now.next) es

-- what they stand for now
abbrev pub equations_here : RegionView → List Equation → Equations
equations_here r es = map (equation_meant (text_in r.store) r.store.now.bound) es

-- equations were solved one after another, whose unifier is this
pub record AreAllSolved (old new : RegionView) (es : Equations) : Type 0 where
  pub further : Substitution
  pub unified : unifier es ≡ Some further
  pub bound : IsComposition old.store.now.bound further new.store.now.bound
  pub next : new.store.now.next ≡ old.store.now.next
  pub keeps : Keeps (text_in old.store) (text_in new.store)
  pub values : (value : BindingCell) → IsValueIn old.store value → IsValueIn new.store value × (value_term new.store value ≡ value_term old.store value)
  pub stays : StaysStanding old new

-- or they have no unifier
abbrev pub AreSolvedOr : RegionView → RegionView → Equations → Bool → Type 0
AreSolvedOr old new es true = AreAllSolved old new es
AreSolvedOr old new es false = (unifier es ≡ None) × StaysStanding old new

-- a solution was tried, in whose goals a cut leaves so many choice points: where its equations unify, what goes on is its
-- entry, and where they don't, there is none
pub record TriesSolution (old new : RegionView) (solution : SolutionView) (after : Position) (cut : ℕ) (reached : Option Position) : Type 0 where
  pub entries : (named : List NamedTerm) → solved_entries named old solution cut after ≡ entries_at named new reached
  pub position : IsOptionalPosition new cut reached
  pub stands : (named : List NamedTerm) → standing named new ≡ standing named old
  pub choices : new.choices ≡ old.choices
  pub marks : new.store.marks ≡ old.store.marks
  pub text : new.text ≡ old.text
  pub floor : new.store.floor ≡ old.store.floor

abbrev pub AreSolutionsHere : RegionView → List SolutionView → Type 0
AreSolutionsHere r solutions = Each (IsSolutionHere r) solutions

-- solutions took the place of a goal: what goes on, over what the choice points stand for, is their entries
pub record Solves (old new : RegionView) (solutions : List SolutionView) (after : Position) (reached : Option Position) : Type 0 where
  pub entries : (named : List NamedTerm) → after_reply (Solutions (map (solution_here old) solutions)) (continuation_here named old after) (entries_of named old) ≡ entries_at named new reached ++ entries_of named new
  pub position : IsOptionalPosition new (length new.choices) reached
  pub text : new.text ≡ old.text
  pub floor : new.store.floor ≡ old.store.floor
