-- The table of built-in predicates and the code's.
use Rattle.std.specs.Prelude.{◌≡◌, ℕ, cond, ◌&&◌, ◌==◌, Bool, List, [], ◌∷◌, Option, Some, None}
use Rattle.au_model.specs.Terms.Forms.{same_name}
use Rattle.run_model.specs.Goals.Control.{construct_of}
use Rattle.run_model.specs.Goals.BuiltinAnswers.{predicate}
use Rattle.run_model.specs.Goals.Builtins.{builtins}
use Rattle.std_builtins.specs.declared.table.Builtin.{Builtin}
use Rattle.std_builtins.specs.Meanings.{answer_of, arguments_of}

-- a name, a number of arguments, and the case
abbrev pub Row : Type 0
Row = List ℕ × ℕ × Builtin

abbrev pub is_row : List ℕ → ℕ → List ℕ → ℕ → Bool
is_row name arity row count = same_name row name && count == arity

-- what the first row with this name and number of arguments names
abbrev pub kind_in : {K : Type 0} → List ℕ → ℕ → List (List ℕ × ℕ × K) → Option K
kind_in name arity [] = None
kind_in name arity (row ∷ rows) = cond (is_row name arity row.0 row.1) (Some row.2) (kind_in name arity rows)

-- the definition's row of a name and number of arguments answers as a case does
pub record IsRowOf (name : List ℕ) (arity : ℕ) (b : Builtin) : Type 0 where
  pub row : construct_of builtins name arity ≡ Some (predicate name arity (answer_of b))
  pub count : arity ≡ arguments_of b
