-- The parts of an answer's line.
use Rattle.std.specs.Prelude.{ℕ, zero, suc, List, [], ◌∷◌, ◌++◌, codes}
use Rattle.std.specs.Str.{chars}
use Rattle.std.specs.String.{string_bytes}
use Rattle.au_term.specs.Term.{Term}
use Rattle.au_model.specs.Terms.Named.{NamedTerm}
use Rattle.au_model.specs.Writing.Lines.{answer_line, further_bindings}
use Rattle.au_model.specs.Syntax.Operators.{OperatorTable}
use Rattle.au_model.specs.declared.types.VarName.{VarName}

abbrev pub named_term : VarName → Term → NamedTerm
named_term v t = record { name = chars (string_bytes v.text); term = t }

-- each name with the value beside it
abbrev pub named_terms : List VarName → List Term → List NamedTerm
named_terms [] ts = []
named_terms (v ∷ vs) [] = []
named_terms (v ∷ vs) (t ∷ ts) = named_term v t ∷ named_terms vs ts

abbrev pub separator : ℕ → List ℕ
separator zero = []
separator (suc n) = codes ", "

abbrev pub line_end : ℕ → List ℕ
line_end zero = codes "true" ++ 10 ∷ []
line_end (suc n) = 10 ∷ []

-- the rest of the line, after so many bindings
abbrev pub line_from : OperatorTable → ℕ → List NamedTerm → List ℕ
line_from ops zero vs = answer_line ops vs
line_from ops (suc n) vs = further_bindings ops vs
