-- Texts whose front spells a term with its end.
use Rattle.std.specs.Prelude.{◌≡◌, ℕ, Bool, true, false, List, [], ◌∷◌}
use Rattle.au_model.specs.Syntax.Words.{Lexed, FoundWord, LastWord, next_word}
use Rattle.au_model.specs.Syntax.Tokens.{token, End, front, tokens_of}
use Rattle.au_model.specs.Syntax.Trees.{Tree}
use Rattle.au_model.specs.Syntax.Primaries.{Setting}
use Rattle.au_model.specs.Syntax.Spelling.{Operand}

-- The tokens up to the first end spell the term, of priority at most 1200, and the end. This is left after it.
pub record SpellsTermWithEnd (s : Setting) (cs : List ℕ) (t : Tree) (rest : List ℕ) : Type 0 where
  pub apart : Bool
  pub spelled : Operand s 1200 (tokens_of cs) (token apart End ∷ []) t
  pub left : (front cs).rest ≡ rest

abbrev pub is_last : Lexed → Bool
is_last (FoundWord LastWord rest) = true
is_last _ = false

-- nothing but layout is left
abbrev pub is_over : List ℕ → Bool
is_over cs = is_last (next_word cs)
