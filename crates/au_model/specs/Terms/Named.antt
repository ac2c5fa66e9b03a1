-- A query's variables by their names.
use Rattle.std.specs.Prelude.{ℕ, List}
use Rattle.std.specs.Str.{chars}
use Rattle.std.specs.String.{string_bytes}
use Rattle.au_term.specs.Term.{Term}
use Rattle.au_model.specs.declared.types.VarName.{VarName}

pub record NamedVariable : Type 0 where
  pub name : List ℕ
  pub number : ℕ

-- a variable by its name, and the term that it stands for
pub record NamedTerm : Type 0 where
  pub name : List ℕ
  pub term : Term

-- the variable that the program's type stands for
abbrev pub variable_meant : VarName → NamedVariable
variable_meant v = record { name = chars (string_bytes v.text); number = v.number }
