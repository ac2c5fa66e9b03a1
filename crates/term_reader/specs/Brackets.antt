-- How brackets pair.
use Rattle.std.specs.Prelude.{◌≡◌, ℕ, zero, suc, List, [], ◌∷◌, Option, Some, None}
use Rattle.au_model.specs.Syntax.Tokens.{Lexeme, Token, token, Open, Close, OpenList, CloseList, OpenCurly, CloseCurly}

-- how many brackets are open after a token where so many were; none where it closes one that was not opened
abbrev pub open_after : Lexeme → ℕ → Option ℕ
open_after Open d = Some (suc d)
open_after OpenList d = Some (suc d)
open_after OpenCurly d = Some (suc d)
open_after Close zero = None
open_after CloseList zero = None
open_after CloseCurly zero = None
open_after Close (suc d) = Some d
open_after CloseList (suc d) = Some d
open_after CloseCurly (suc d) = Some d
open_after _ d = Some d

abbrev pub depth_then : (ℕ → Option ℕ) → Option ℕ → Option ℕ
depth_then more (Some d) = more d
depth_then more None = None

-- and after some tokens
abbrev pub depth : List Token → ℕ → Option ℕ
depth [] d = Some d
depth (token a x ∷ ts) d = depth_then (depth ts) (open_after x d)

-- they close the brackets that they open, and no others
abbrev pub Balanced : List Token → Type 0
Balanced ts = (d : ℕ) → depth ts d ≡ Some d
