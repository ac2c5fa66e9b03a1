-- Where a text first goes wrong, and what is wrong there.
use Rattle.std.specs.Prelude.{◌≡◌, ◌<◌, ◌+◌, ◌-◌, ◌^◌, ℕ, zero, suc, Bool, true, false, ◌==◌, nat_le, min, List, [], ◌∷◌, ◌++◌, length, take, drop, slice_get, reverse, Option, Some, if◌then◌else◌}
use Rattle.std.specs.Str.{chars}
use Rattle.au_model.specs.Syntax.Characters.{is_in_line, run}
use Rattle.au_model.specs.Syntax.Layout.{Gap, GapThen, after_layout}
use Rattle.au_model.specs.Syntax.Words.{FoundFault, next_word}
use Rattle.au_model.specs.Syntax.Tokens.{Token, token, Integer, Comma, End, front, first_tokens, tokens_of}
use Rattle.au_model.specs.Syntax.Trees.{Tree}
use Rattle.au_model.specs.Syntax.Primaries.{Setting, Call, primary_of}
use Rattle.au_model.specs.Syntax.Spelling.{Operand}
use Rattle.au_model.specs.Syntax.TermTexts.{is_over}
use Rattle.au_model.specs.declared.types.FaultKind.{FaultKind}
use Rattle.au_model.specs.declared.types.FaultKind.TheVariants.{UnexpectedToken, UnexpectedEnd, WideNumeral, TooManyArguments}

-- some further tokens complete them to a term with its end
pub record BeginsTerm (s : Setting) (ts : List Token) : Type 0 where
  pub more : List Token
  pub apart : Bool
  pub tree : Tree
  pub spelled : Operand s 1200 (ts ++ more) (token apart End ∷ []) tree

-- with this token they begin no such term any more
pub record FaultAt (s : Setting) (ts : List Token) (n : ℕ) : Type 0 where
  pub within : n < length ts
  pub begins : BeginsTerm s (take n ts)
  pub ends : BeginsTerm s (take (suc n) ts) → ⊥

-- so many arguments, each with a comma after it
pub data Past (s : Setting) : ℕ → List Token → List Token → Type 0 where
  none : {ts : List Token} → Past s zero ts ts
  one_more : {n : ℕ} {ts us vs : List Token} {a : Bool} {t : Tree} → Operand s 999 ts (token a Comma ∷ us) t → Past s n us vs → Past s (suc n) ts vs

-- the token is the comma after the last argument that a compound may have; the compound is of this name, and begins
-- with another token
pub record IsOneTooMany (s : Setting) (ts : List Token) (n m : ℕ) (name : List ℕ) : Type 0 where
  pub after : List Token
  pub called : primary_of s (drop m ts) ≡ Call name after
  pub past : Past s 65535 after (drop (suc n) ts)

-- an integer of at least 2^63
abbrev pub is_wide : Option Token → Bool
is_wide (Some (token apart (Integer k))) = nat_le (2 ^ 63) k
is_wide _ = false

-- where this token of a text starts, after its layout
abbrev pub token_start : ℕ → List ℕ → Gap
token_start n cs = after_layout (first_tokens n cs).rest

-- The kind of a text's fault, and the characters from its place on. The first token with which the tokens begin no
-- term, after its layout; where that is the comma after the last argument that a compound may have, the compound's
-- name. Or all tokens up to a faulty one, or up to the end of the text, begin a term.
pub data Fault (s : Setting) (cs : List ℕ) : FaultKind → List ℕ → Type 0 where
  unexpected : {n : ℕ} {from : List ℕ} → FaultAt s (tokens_of cs) n → is_wide (slice_get (tokens_of cs) n) ≡ false → ((m : ℕ) (name : List ℕ) → IsOneTooMany s (tokens_of cs) n m name → ⊥)
      → token_start n cs ≡ GapThen from → Fault s cs UnexpectedToken from
  wide : {n : ℕ} {from : List ℕ} → FaultAt s (tokens_of cs) n → is_wide (slice_get (tokens_of cs) n) ≡ true → token_start n cs ≡ GapThen from → Fault s cs WideNumeral from
  too_many : {n m : ℕ} {name from : List ℕ} → FaultAt s (tokens_of cs) n → IsOneTooMany s (tokens_of cs) n m name → token_start m cs ≡ GapThen from → Fault s cs TooManyArguments from
  faulty : {kind : FaultKind} {from : List ℕ} → BeginsTerm s (tokens_of cs) → next_word (front cs).rest ≡ FoundFault kind from → Fault s cs kind from
  ended : BeginsTerm s (tokens_of cs) → is_over (front cs).rest ≡ true → Fault s cs UnexpectedEnd []

-- the line is counted by the line feeds before, the column by the characters after the last of them
abbrev pub line_feeds : List ℕ → ℕ
line_feeds [] = 0
line_feeds (c ∷ cs) = if c == 10 then suc (line_feeds cs) else line_feeds cs

abbrev pub line_after : List ℕ → ℕ
line_after before = min (1 + line_feeds before) (2 ^ 32 - 1)

abbrev pub column_after : List ℕ → ℕ
column_after before = min (1 + length (run is_in_line (reverse before))) (2 ^ 32 - 1)

-- the line and the column of the place of a text from which these are its characters
pub record IsLineAndColumn (text from : List ℕ) (line column : ℕ) : Type 0 where
  pub before : List ℕ
  pub splits : chars text ≡ before ++ from
  pub line_is : line ≡ line_after before
  pub column_is : column ≡ column_after before
