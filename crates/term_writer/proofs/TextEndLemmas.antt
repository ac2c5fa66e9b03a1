-- A text with nothing after it.
use Rattle.std.proofs.Common.{◌≡◌, ℕ, true, false, List, [], ◌++◌, refl, sym, ap, ◌∙◌, append-nil}
use Rattle.au_model.specs.declared.types.Style.{Style}
use Rattle.au_model.specs.Writing.Pieces.{Piece, text_of_tokens}
use Rattle.au_model.specs.Writing.WrittenTerms.{token_text}
use Rattle.term_writer.specs.declared.text.Front.{Front}
use Rattle.term_writer.specs.declared.text.Front.TheVariants.{Nothing, Space, Token, PrefixOperator}
use Rattle.term_writer.specs.TextInProgress.{joined_after, bytes_with}

nothing_after : (front : Front) → joined_after front [] ≡ []
nothing_after Nothing = refl
nothing_after Space = refl
nothing_after (Token side) = refl
nothing_after (PrefixOperator true) = refl
nothing_after (PrefixOperator false) = refl

pub ends_here : (style : Style) (bytes : List ℕ) (front : Front) → bytes_with style bytes front [] ≡ bytes
ends_here style bytes front = ap (λ ts. bytes ++ text_of_tokens (token_text style) ts) (nothing_after front) ∙ append-nil bytes

-- what was written after bytes of a text in which nothing is in front
pub written_after : (style after : Style) (old new : List ℕ) (front front_after : Front) (ps : List Piece)
    → bytes_with after new front_after [] ≡ bytes_with style old front ps → front ≡ Nothing → new ≡ bytes_with style old Nothing ps
written_after style after old new front front_after ps e f = sym (ends_here after new front_after) ∙ (e ∙ ap (λ g. bytes_with style old g ps) f)
