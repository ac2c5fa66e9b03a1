-- The tokens of a written term with its end (ISO/IEC 13211-1, 7.10.5).
use Rattle.std.specs.Prelude.{List, [], ◌∷◌}
use Rattle.au_term.specs.Term.{Term}
use Rattle.au_model.specs.Syntax.Operators.{OperatorTable}
use Rattle.au_model.specs.Syntax.Tokens.{Token, End}
use Rattle.au_model.specs.Writing.Pieces.{Put, Space, NothingYet, joined_pieces}
use Rattle.au_model.specs.Writing.WrittenTerms.{notation_of, pieces}
use Rattle.au_model.specs.declared.types.Style.TheVariants.{Quoted}

-- the tokens of a term in quoted style, with a space and a full stop after it
abbrev pub tokens_with_end : OperatorTable → Term → List Token
tokens_with_end operators t = joined_pieces NothingYet (pieces (notation_of Quoted operators) t (Space ∷ Put End ∷ []))
