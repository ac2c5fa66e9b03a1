-- The lines that a run writes.
use Rattle.std.specs.Prelude.{ℕ, List, [], ◌∷◌, ◌++◌, Option, Some, None, codes}
use Rattle.std.specs.Str.{encode_utf8_all}
use Rattle.au_term.specs.Term.{Term}
use Rattle.au_model.specs.Terms.Named.{NamedTerm}
use Rattle.au_model.specs.Syntax.Operators.{OperatorTable}
use Rattle.au_model.specs.Writing.WrittenTerms.{written_term, written_as_value}
use Rattle.au_model.specs.declared.types.Style.TheVariants.{Quoted}

abbrev pub shown_binding : OperatorTable → NamedTerm → List ℕ
shown_binding operators v = encode_utf8_all v.name ++ codes " = " ++ written_as_value operators v.term

abbrev pub further_bindings : OperatorTable → List NamedTerm → List ℕ
further_bindings operators [] = 10 ∷ []
further_bindings operators (v ∷ vs) = codes ", " ++ shown_binding operators v ++ further_bindings operators vs

abbrev pub answer_line : OperatorTable → List NamedTerm → List ℕ
answer_line operators [] = codes "true" ++ 10 ∷ []
answer_line operators (v ∷ vs) = shown_binding operators v ++ further_bindings operators vs

abbrev pub no_line : List ℕ
no_line = codes "no" ++ 10 ∷ []

abbrev pub error_line : OperatorTable → Term → List ℕ
error_line operators ball = codes "error: " ++ written_term Quoted operators ball ++ 10 ∷ []

-- the line that ends a query, by its uncaught ball if there is one
abbrev pub end_line : OperatorTable → Option Term → List ℕ
end_line operators None = no_line
end_line operators (Some ball) = error_line operators ball
