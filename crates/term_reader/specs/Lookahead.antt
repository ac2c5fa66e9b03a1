-- What the tokens that were read presume of those to come.
use Rattle.std.specs.Prelude.{◌≡◌, ℕ, Bool, true, false, not, ◌&&◌, nat_le, List, [], ◌∷◌, Some}
use Rattle.au_model.specs.Syntax.Tokens.{Lexeme, Token, token, Name, QuotedName, CloseList, CloseCurly, scanned, ScannedTo, is_end}
use Rattle.au_model.specs.Syntax.Operators.{Operator, OperatorTable, prefix_of}
use Rattle.au_model.specs.Syntax.Primaries.{Setting, has_direct_open, has_direct_integer, ends_operand_before, prefix_is_atom, is_minus_name}
use Rattle.term_reader.specs.Completion.{OpenFrame, bound_of}

-- Nothing. After a name, that it is neither a compound's nor a sign: then the name may be a prefix operator that
-- stands for itself, or one with an operand. After an open bracket, that it is not closed at once. After a token
-- in front of which a prefix operator stands for itself, that this token allows it.
pub data Lookahead : Type 0 where
  Free : Lookahead
  Named : Bool → Lookahead
  Lone : Bool → Lookahead
  WithOperand : Bool → Lookahead
  InList : Lookahead
  InCurly : Lookahead
  Joined : Lexeme → Lookahead

abbrev pub closes_list : List Token → Bool
closes_list (token apart CloseList ∷ ts) = true
closes_list _ = false

abbrev pub closes_curly : List Token → Bool
closes_curly (token apart CloseCurly ∷ ts) = true
closes_curly _ = false

abbrev pub is_plain_name_before : Bool → List Token → Bool
is_plain_name_before sign ts = not (has_direct_open ts) && not (sign && has_direct_integer ts)

abbrev pub is_as_expected : OperatorTable → Lookahead → List Token → Bool
is_as_expected ops Free ts = true
is_as_expected ops (Named sign) ts = is_plain_name_before sign ts
is_as_expected ops (Lone sign) ts = is_plain_name_before sign ts && prefix_is_atom ops ts
is_as_expected ops (WithOperand sign) ts = is_plain_name_before sign ts && not (prefix_is_atom ops ts)
is_as_expected ops InList ts = not (closes_list ts)
is_as_expected ops InCurly ts = not (closes_curly ts)
is_as_expected ops (Joined x) ts = ends_operand_before ops x ts

-- these tokens, none of them the end, are at the front of a text, and this is left after them
pub data Scans : List ℕ → List Token → List ℕ → Type 0 where
  none : {cs : List ℕ} → Scans cs [] cs
  onto : {cs mid rest : List ℕ} {a : Bool} {x : Lexeme} {ts : List Token} → scanned cs ≡ ScannedTo (token a x) mid → is_end x ≡ false → Scans mid ts rest → Scans cs (token a x ∷ ts) rest

-- a name, and whether it may be a sign
abbrev pub IsName : Lexeme → Bool → List ℕ → Type 0
IsName (Name m) sign n = (m ≡ n) × (sign ≡ is_minus_name n)
IsName (QuotedName m) sign n = (m ≡ n) × (sign ≡ false)
IsName _ sign n = ⊥

-- a prefix operator, and whether it may have an operand here
pub record IsPrefixAsAtom (s : Setting) (k : List OpenFrame) (first : Token) (sign may_take_operand : Bool) : Type 0 where
  pub apart : Bool
  pub lexeme : Lexeme
  pub name : List ℕ
  pub operator : Operator
  pub is : first ≡ token apart lexeme
  pub named : IsName lexeme sign name
  pub prefix : prefix_of s.ops name ≡ Some operator
  pub may : may_take_operand ≡ nat_le operator.priority (bound_of k)

abbrev pub MayTakeOperand : Setting → List OpenFrame → Token → List Token → Lookahead → Bool → Type 0
MayTakeOperand s k first over (Lone sign) may_take_operand = IsPrefixAsAtom s k first sign may_take_operand × (over ≡ [])
MayTakeOperand s k first over _ may_take_operand = may_take_operand ≡ false
