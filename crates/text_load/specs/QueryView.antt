-- Queries as they are kept.
use Rattle.std.specs.Prelude.{◌≡◌, ℕ, List, [], ◌∷◌, map}
use Rattle.au_term.specs.Term.{Term}
use Rattle.au_model.specs.Terms.Named.{variable_meant}
use Rattle.run_model.specs.Programs.Jobs.{Query as QueryTerms, query_bound}
use Rattle.au_model.specs.declared.types.VarName.{VarName}
use Rattle.clause_compile.specs.CompiledClauses.{goal_items}
use Rattle.clause_compile.specs.declared.item.Scope.TheVariants.{Local}
use Rattle.clause_compile.specs.declared.item.Item.{Item}
use Rattle.clause_compile.specs.declared.item.Item.TheVariants.{Goal, CatchEnd, Collect, Remove, End}

-- the terms of goals
abbrev pub goal_terms : List Item → List Term
goal_terms [] = []
goal_terms (Goal t cut ∷ items) = t ∷ goal_terms items
goal_terms (CatchEnd scope ∷ items) = goal_terms items
goal_terms (Collect t scope ∷ items) = goal_terms items
goal_terms (Remove id ∷ items) = goal_terms items
goal_terms (End ball ∷ items) = goal_terms items

abbrev pub query_meant : List Item → List VarName → QueryTerms
query_meant items names = record { goals = goal_terms items; names = map variable_meant names }

-- A query's items are its goals, whose cuts keep the query's end alone, and the number is the least above all of its
-- variables.
pub record IsQueryInvariant (items : List Item) (names : List VarName) (vars : ℕ) : Type 0 where
  pub goals : items ≡ goal_items (Local 0) (goal_terms items)
  pub vars_are : vars ≡ query_bound (query_meant items names)
