-- What matters of a token that follows another.
use Rattle.std.specs.Prelude.{◌≡◌, ◌≤◌, ◌^◌, ℕ, Bool, false, List, ◌∷◌, Option, Some, None, if◌then◌else◌}
use Rattle.au_model.specs.Syntax.Characters.{chars_from}
use Rattle.au_model.specs.Syntax.Tokens as words
use Rattle.au_model.specs.Syntax.Tokens.{Token, token, tokens_of, scanned, ScannedNone}
use Rattle.au_model.specs.Syntax.Primaries.{Listed, Curly, has_direct_open, has_direct_integer, list_primary, curly_primary}
use Rattle.token_scan.specs.NextToken.{IsNextToken}
use Rattle.token_scan.specs.ScannedParts.{IsPlaceFrom}
use Rattle.token_scan.specs.declared.token.Token.{Token as Ahead}
use Rattle.token_scan.specs.declared.token.TokenKind.TheVariants.{EndOfText}
use Rattle.term_reader.specs.Lookahead.{Scans}
use Rattle.term_reader.specs.declared.lexeme.Closer.{Closer}
use Rattle.term_reader.specs.declared.lexeme.Closer.TheVariants as closer
use Rattle.term_reader.specs.declared.lookahead.Follow.{Follow}
use Rattle.term_reader.specs.declared.lookahead.Follow.TheVariants.{OpenRound, Unsigned, ClosesList, ClosesCurly, Other}

abbrev pub follow_of : Bool → words.Lexeme → ℕ → Follow
follow_of apart words.Open end = if apart then Other else OpenRound end
follow_of apart (words.Integer k) end = if apart then Other else Unsigned k end
follow_of apart words.CloseList end = ClosesList end
follow_of apart words.CloseCurly end = ClosesCurly end
follow_of apart _ end = Other

abbrev pub closer_of : words.Lexeme → Closer
closer_of words.Close = closer.Close
closer_of words.CloseList = closer.CloseList
closer_of words.CloseCurly = closer.CloseCurly
closer_of words.Comma = closer.Comma
closer_of words.Bar = closer.Bar
closer_of words.End = closer.End
closer_of _ = closer.Other

-- the token at a place, seen ahead; none at the end of the text or where the token is faulty
abbrev pub IsAhead : List ℕ → ℕ → Option Ahead → Type 0
IsAhead text at None = scanned (chars_from text at) ≡ ScannedNone
IsAhead text at (Some t) = IsNextToken text at t × (t.kind ≡ EndOfText → ⊥)

-- none of the four is in front
pub record NoneOfFourFollows (ts : List Token) : Type 0 where
  pub no_open : has_direct_open ts ≡ false
  pub no_count : has_direct_integer ts ≡ false
  pub no_list : list_primary ts ≡ Listed ts
  pub no_curly : curly_primary ts ≡ Curly ts

-- the first of these tokens, and those after it
abbrev pub IsFollowing : List ℕ → List Token → Follow → Type 0
IsFollowing text ts (OpenRound end) = ts ≡ token false words.Open ∷ tokens_of (chars_from text end)
IsFollowing text ts (Unsigned k end) = (ts ≡ token false (words.Integer k) ∷ tokens_of (chars_from text end)) × (k ≤ 2 ^ 63)
IsFollowing text ts (ClosesList end) = (a : Bool) × (ts ≡ token a words.CloseList ∷ tokens_of (chars_from text end))
IsFollowing text ts (ClosesCurly end) = (a : Bool) × (ts ≡ token a words.CloseCurly ∷ tokens_of (chars_from text end))
IsFollowing text ts Other = NoneOfFourFollows ts

-- a place further on, after some tokens
pub record IsPlaceAfterTokens (text : List ℕ) (at end : ℕ) : Type 0 where
  pub place : IsPlaceFrom text at end
  pub over : List Token
  pub scans : Scans (chars_from text at) over (chars_from text end)

abbrev pub FollowingTokenEnds : List ℕ → ℕ → Follow → Type 0
FollowingTokenEnds text at (OpenRound end) = IsPlaceAfterTokens text at end
FollowingTokenEnds text at (Unsigned k end) = IsPlaceAfterTokens text at end
FollowingTokenEnds text at (ClosesList end) = IsPlaceAfterTokens text at end
FollowingTokenEnds text at (ClosesCurly end) = IsPlaceAfterTokens text at end
FollowingTokenEnds text at Other = Unit {0}

-- what follows at a place of a text
pub record IsFollowingAt (text : List ℕ) (at : ℕ) (f : Follow) : Type 0 where
  pub is : IsFollowing text (tokens_of (chars_from text at)) f
  pub ends : FollowingTokenEnds text at f
