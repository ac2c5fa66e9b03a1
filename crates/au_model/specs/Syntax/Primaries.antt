-- How a term begins: what its first tokens are, where an operand is expected (ISO/IEC 13211-1, 6.3).
use Rattle.std.specs.Prelude.{ℕ, zero, suc, ℤ, pos, negsuc, ◌^◌, Bool, true, false, not, ◌&&◌, nat_lt, nat_eq, List, [], ◌∷◌, Option, Some, None, codes, if◌then◌else◌}
use Rattle.std.specs.Cmp.Lexicographic.{pointwise}
use Rattle.au_model.specs.Syntax.Operators.{Operator, OperatorTable, prefix_of}
use Rattle.au_model.specs.Syntax.Tokens.{Lexeme, Token, token, Name, QuotedName, Variable, Integer, Text, Open, Close, OpenList, CloseList, OpenCurly, CloseCurly, Comma, Bar, End}
use Rattle.au_model.specs.Syntax.Trees.{Tree, VarTree, IntTree, AtomTree, text_tree}
use Rattle.au_model.specs.Terms.Forms.{nil_name, braces_name}
use Rattle.au_model.specs.Syntax.PostOperators.{PostOperator, Nothing, named_post_operator}
use Rattle.au_model.specs.declared.types.DoubleQuotes.{DoubleQuotes}

-- the operators, and what a double-quoted item stands for
pub record Setting : Type 0 where
  pub ops : OperatorTable
  pub quotes : DoubleQuotes

-- A whole operand of one or two tokens; a bracket of one of the three kinds; a compound's name and bracket; a prefix
-- operator. With the tokens after it.
pub data Primary : Type 0 where
  Leaf : Tree → List Token → Primary
  Bracket : List Token → Primary
  Curly : List Token → Primary
  Listed : List Token → Primary
  Call : List ℕ → List Token → Primary
  Prefix : List ℕ → Operator → List Token → Primary
  Fails : Primary

-- directly followed by `(`
abbrev pub is_direct_open : Bool → Lexeme → Bool
is_direct_open apart Open = not apart
is_direct_open apart _ = false

abbrev pub has_direct_open : List Token → Bool
has_direct_open [] = false
has_direct_open (token apart x ∷ ts) = is_direct_open apart x

-- directly followed by an integer
abbrev pub is_direct_integer : Bool → Lexeme → Bool
is_direct_integer apart (Integer k) = not apart
is_direct_integer apart _ = false

abbrev pub has_direct_integer : List Token → Bool
has_direct_integer [] = false
has_direct_integer (token apart x ∷ ts) = is_direct_integer apart x

abbrev pub is_minus_name : List ℕ → Bool
is_minus_name n = pointwise nat_eq n (codes "-")

-- `-` without quotes
abbrev pub is_minus : Lexeme → Bool
is_minus (Name n) = is_minus_name n
is_minus _ = false

abbrev pub tokens_after : List Token → List Token
tokens_after [] = []
tokens_after (t ∷ ts) = ts

abbrev pub negative_of : ℕ → ℤ
negative_of zero = pos 0
negative_of (suc k) = negsuc k

abbrev pub negated : List Token → ℤ
negated (token apart (Integer k) ∷ ts) = negative_of k
negated _ = pos 0

abbrev pub is_post_operator : PostOperator → Bool
is_post_operator Nothing = false
is_post_operator _ = true

abbrev pub is_some_operator : Option Operator → Bool
is_some_operator (Some o) = true
is_some_operator None = false

-- an infix or postfix operator that is no prefix operator, where it is neither a compound's name nor a number's sign
abbrev pub is_operator_here : OperatorTable → List ℕ → Lexeme → List Token → Bool
is_operator_here ops n x ts = is_post_operator (named_post_operator ops n) && (not (is_some_operator (prefix_of ops n)) && (not (has_direct_open ts) && not (is_minus x && has_direct_integer ts)))

-- a prefix operator in front of this stands for itself
abbrev pub ends_operand_before : OperatorTable → Lexeme → List Token → Bool
ends_operand_before ops End ts = true
ends_operand_before ops Close ts = true
ends_operand_before ops CloseList ts = true
ends_operand_before ops CloseCurly ts = true
ends_operand_before ops Comma ts = true
ends_operand_before ops Bar ts = true
ends_operand_before ops (Name n) ts = is_operator_here ops n (Name n) ts
ends_operand_before ops (QuotedName n) ts = is_operator_here ops n (QuotedName n) ts
ends_operand_before ops _ ts = false

abbrev pub prefix_is_atom : OperatorTable → List Token → Bool
prefix_is_atom ops [] = true
prefix_is_atom ops (token apart x ∷ ts) = ends_operand_before ops x ts

abbrev pub prefix_or_atom : OperatorTable → List ℕ → Option Operator → List Token → Primary
prefix_or_atom ops n None ts = Leaf (AtomTree n) ts
prefix_or_atom ops n (Some o) ts = if prefix_is_atom ops ts then Leaf (AtomTree n) ts else Prefix n o ts

-- a name; the first that fits
abbrev pub name_primary : OperatorTable → Bool → List ℕ → List Token → Primary
name_primary ops is_sign n ts =
    if has_direct_open ts then Call n (tokens_after ts)
    else if is_sign && has_direct_integer ts then Leaf (IntTree (negated ts)) (tokens_after ts)
    else prefix_or_atom ops n (prefix_of ops n) ts

-- a name that is no operator
abbrev pub atom_primary : List ℕ → List Token → Primary
atom_primary n ts = if has_direct_open ts then Call n (tokens_after ts) else Leaf (AtomTree n) ts

-- after `[` and `{`: `[]` and `{}` are names
abbrev pub list_primary : List Token → Primary
list_primary (token apart CloseList ∷ ts) = atom_primary nil_name ts
list_primary ts = Listed ts

abbrev pub curly_primary : List Token → Primary
curly_primary (token apart CloseCurly ∷ ts) = atom_primary braces_name ts
curly_primary ts = Curly ts

-- 9223372036854775808 is an operand only after its sign
abbrev pub lexeme_primary : Setting → Lexeme → List Token → Primary
lexeme_primary s (Name n) ts = name_primary s.ops (is_minus_name n) n ts
lexeme_primary s (QuotedName n) ts = name_primary s.ops false n ts
lexeme_primary s (Variable n) ts = Leaf (VarTree n) ts
lexeme_primary s (Integer k) ts = if nat_lt k (2 ^ 63) then Leaf (IntTree (pos k)) ts else Fails
lexeme_primary s (Text cs) ts = Leaf (text_tree s.quotes cs) ts
lexeme_primary s Open ts = Bracket ts
lexeme_primary s OpenList ts = list_primary ts
lexeme_primary s OpenCurly ts = curly_primary ts
lexeme_primary s _ ts = Fails

abbrev pub primary_of : Setting → List Token → Primary
primary_of s [] = Fails
primary_of s (token apart x ∷ ts) = lexeme_primary s x ts
