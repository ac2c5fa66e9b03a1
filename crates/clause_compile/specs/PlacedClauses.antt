-- Clauses as places.
use Rattle.std.specs.Prelude.{◌≡◌, ◌≤◌, map}
use Rattle.au_model.specs.Terms.Each.{Each}
use Rattle.run_model.specs.Programs.Bodies.{clause_goals_of}
use Rattle.run_model.specs.Programs.Clauses.{Clause as ClauseTerms, clause_variables}
use Rattle.clause_compile.specs.ClauseInvariant.{numbers_from}
use Rattle.clause_compile.specs.CompiledClauses.{clause_bound}
use Rattle.clause_compile.specs.Places.{CodeView, Keeps, IsPlaceOf, meaning_in}
use Rattle.clause_compile.specs.declared.code.ClausePlaces.{ClausePlaces}

-- places that mean a clause were added: its head, the goals of its body, and its variables, numbered from 0
pub record IsClausePlaced (old new : CodeView) (c : ClauseTerms) (p : ClausePlaces) : Type 0 where
  pub keeps : Keeps old new
  pub head_there : IsPlaceOf new p.head
  pub head : meaning_in new p.head ≡ c.head
  pub goals_there : Each (IsPlaceOf new) p.goals.items
  pub goals : map (meaning_in new) p.goals.items ≡ clause_goals_of c.body
  pub numbered : clause_variables c ≡ numbers_from 0 p.vars
  pub below : clause_bound c ≤ p.vars
