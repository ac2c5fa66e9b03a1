-- The solutions of clauses that an effect has found, in a region (ISO/IEC 13211-1, 7.7.10, 8.8.1 and 8.9.3).
use Rattle.std.specs.Prelude.{◌≡◌, ℕ, Bool, true, false, List, [], ◌∷◌, Option, Some, None}
use Rattle.au_term.specs.Term.{Term}
use Rattle.au_model.specs.Terms.Substitutions.{resolve}
use Rattle.run_model.specs.Goals.DatabaseGoals.{clause_match, head_in, body_in}
use Rattle.run_model.specs.Goals.Outcomes.{Reply, Solution, clause_solution}
use Rattle.run_model.specs.Programs.Clauses.{clause_takes, renamed_head, renamed_body, renamed_goals}
use Rattle.run_model.specs.Programs.Databases.{NumberedClause}
use Rattle.cell_store.specs.StoreView.{StoreView, IsValueIn, meaning, substitution, text_in}
use Rattle.effect_gate.specs.Effects.{AreFoundBy}
use Rattle.clause_compile.specs.declared.event.Effect.{Effect}
use Rattle.region_split.specs.Solutions.{SolutionView, side_term, IsSideAt}
use Rattle.region_split.specs.declared.solution.EquationSide.{EquationSide}
use Rattle.region_split.specs.declared.solution.EquationSide.TheVariants.{Value, Copied}
use Rattle.region_world.specs.declared.found.Matching.{Matching}
use Rattle.region_world.specs.declared.found.Matching.TheVariants.{Goal, Parts}

-- what a side stands for
abbrev pub side_meaning : StoreView → EquationSide → Term
side_meaning st side = resolve (substitution st) (side_term (text_in st) side)

-- values that are there
abbrev pub IsMatchingIn : StoreView → Matching → Type 0
IsMatchingIn st (Goal goal) = IsValueIn st goal
IsMatchingIn st (Parts head body removes) = IsValueIn st head × IsSideAt (text_in st) st.now.next st.now.next body

-- the clause that is removed, if it is
abbrev pub removal_of : Bool → ℕ → Option ℕ
removal_of true number = Some number
removal_of false number = None

-- a clause as a term, taken apart to be removed
abbrev pub AreRemovalParts : StoreView → Term → Matching → Type 0
AreRemovalParts st clause (Goal goal) = ⊥
AreRemovalParts st clause (Parts head body removes) = (meaning st head ≡ head_in clause) × (side_meaning st body ≡ body_in clause) × (removes ≡ true)

-- where they unify with a clause whose variables are renamed to the next numbers
abbrev pub clause_unified : StoreView → Matching → NumberedClause → Solution
clause_unified st (Goal goal) c = clause_solution (meaning st goal) st.now.next c.clause
clause_unified st (Parts head body removes) c = clause_match (removal_of removes c.number) (meaning st head) (side_meaning st body) st.now.next c.clause

-- the same in a region
abbrev pub found_solution : Matching → ℕ → NumberedClause → SolutionView
found_solution (Goal goal) next c = record {
  equations = record { left = Value goal; right = Copied (renamed_head c.clause next) } ∷ [];
  goals = renamed_goals c.clause next;
  removes = None;
  variables = clause_takes c.clause;
}
found_solution (Parts head body removes) next c = record {
  equations =
      record { left = Value head; right = Copied (renamed_head c.clause next) }
      ∷ record { left = body; right = Copied (renamed_body c.clause next) }
      ∷ [];
  goals = [];
  removes = removal_of removes c.number;
  variables = clause_takes c.clause;
}

-- an effect for which clauses were found
pub record HasFound (e : Effect) (next : ℕ) : Type 0 where
  pub reply : Reply
  pub found : List NumberedClause
  pub are : AreFoundBy e next reply found
