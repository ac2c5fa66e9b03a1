-- What a token after an operand joins it to (ISO/IEC 13211-1, 6.3.4).
use Rattle.std.specs.Prelude.{ℕ, ◌-◌, Bool, true, false, ◌&&◌, nat_le, List, [], ◌∷◌, Option, Some, None, codes, if◌then◌else◌}
use Rattle.au_model.specs.Syntax.Operators.{OperatorKind, KindXfy, KindYfx, KindFy, KindYf, Operator, OperatorTable, infix_of, postfix_of}
use Rattle.au_model.specs.Syntax.Tokens.{Lexeme, Token, token, Name, QuotedName, Comma}

abbrev pub takes_equal_left : OperatorKind → Bool
takes_equal_left KindYfx = true
takes_equal_left KindYf = true
takes_equal_left _ = false

abbrev pub takes_equal_right : OperatorKind → Bool
takes_equal_right KindXfy = true
takes_equal_right KindFy = true
takes_equal_right _ = false

-- the greatest priority of an operand
abbrev pub left_bound : Operator → ℕ
left_bound o = if takes_equal_left o.kind then o.priority else o.priority - 1

abbrev pub right_bound : Operator → ℕ
right_bound o = if takes_equal_right o.kind then o.priority else o.priority - 1

pub data PostOperator : Type 0 where
  Infix : List ℕ → Operator → PostOperator
  Postfix : List ℕ → Operator → PostOperator
  Nothing : PostOperator

abbrev pub postfix_operator : List ℕ → Option Operator → PostOperator
postfix_operator n (Some o) = Postfix n o
postfix_operator n None = Nothing

abbrev pub infix_operator : List ℕ → Option Operator → Option Operator → PostOperator
infix_operator n (Some o) after = Infix n o
infix_operator n None after = postfix_operator n after

abbrev pub named_post_operator : OperatorTable → List ℕ → PostOperator
named_post_operator ops n = infix_operator n (infix_of ops n) (postfix_of ops n)

-- the token `,` is this operator whatever the table says
abbrev pub comma : Operator
comma = record { priority = 1000; kind = KindXfy }

abbrev pub lexeme_post_operator : OperatorTable → Lexeme → PostOperator
lexeme_post_operator ops (Name n) = named_post_operator ops n
lexeme_post_operator ops (QuotedName n) = named_post_operator ops n
lexeme_post_operator ops Comma = Infix (codes ",") comma
lexeme_post_operator ops _ = Nothing

abbrev pub token_post_operator : OperatorTable → Token → PostOperator
token_post_operator ops (token apart x) = lexeme_post_operator ops x

-- after an operand of this priority, within this bound
abbrev pub fits : ℕ → ℕ → Operator → Bool
fits bound p o = nat_le o.priority bound && nat_le p (left_bound o)

abbrev pub post_operator_fits : ℕ → ℕ → PostOperator → Bool
post_operator_fits bound p (Infix n o) = fits bound p o
post_operator_fits bound p (Postfix n o) = fits bound p o
post_operator_fits bound p Nothing = false

-- an operand of this priority, within this bound, goes on with these tokens
abbrev pub continues_with : OperatorTable → ℕ → ℕ → List Token → Bool
continues_with ops bound p [] = false
continues_with ops bound p (t ∷ ts) = post_operator_fits bound p (token_post_operator ops t)
