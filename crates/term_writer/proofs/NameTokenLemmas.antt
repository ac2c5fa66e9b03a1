-- Which token a name is.
use Rattle.std.proofs.Common.{◌≡◌, ℕ, true, false, List, refl, ◌∙◌}
use Rattle.std.specs.Str.{chars, IsUtf8}
use Rattle.std.proofs.lemmas.Str.{encodes-chars}
use Rattle.au_model.specs.declared.types.Style.{Style}
use Rattle.au_model.specs.Syntax.Tokens.{Name}
use Rattle.au_model.specs.Writing.NameForms.{is_symbol_name, is_letter_name, is_solo_name}
use Rattle.au_model.specs.Writing.WrittenTerms.{name_token, token_text}
use Rattle.term_writer.specs.declared.text.Side.{Side}
use Rattle.term_writer.specs.declared.text.Side.TheVariants.{Symbols, Letters, Other}
use Rattle.term_writer.specs.TextInProgress.{side_of}
use Rattle.term_writer.proofs.SeamLemmas.{same_text}

-- the token of a name, by its characters: its sides, and its text
pub record IsBareToken (style : Style) (n : List ℕ) (side : Side) (bytes : List ℕ) : Type 0 where
  pub sides : side_of (name_token n) ≡ side
  pub text : token_text style (name_token n) ≡ bytes

bare_text : (style : Style) (bytes : List ℕ) → IsUtf8 bytes → token_text style (Name (chars bytes)) ≡ bytes
bare_text style bytes u = same_text style (Name (chars bytes)) refl ∙ encodes-chars bytes u

pub symbol_token : (style : Style) (bytes : List ℕ) → IsUtf8 bytes → is_symbol_name (chars bytes) ≡ true → IsBareToken style (chars bytes) Symbols bytes
symbol_token style bytes u s = record { sides = rw s (rw s refl); text = rw s (bare_text style bytes u) }

pub letter_token : (style : Style) (bytes : List ℕ) → IsUtf8 bytes → is_symbol_name (chars bytes) ≡ false → is_letter_name (chars bytes) ≡ true → IsBareToken style (chars bytes) Letters bytes
letter_token style bytes u s l = record { sides = rw (s, l) (rw (s, l) refl); text = rw (s, l) (bare_text style bytes u) }

pub solo_token : (style : Style) (bytes : List ℕ) → IsUtf8 bytes → is_symbol_name (chars bytes) ≡ false → is_letter_name (chars bytes) ≡ false → is_solo_name (chars bytes) ≡ true → IsBareToken style (chars bytes) Other bytes
solo_token style bytes u s l o = record { sides = rw (s, l, o) (rw (s, l) refl); text = rw (s, l, o) (bare_text style bytes u) }

-- a symbol run is bare
pub symbols_side : (n : List ℕ) → is_symbol_name n ≡ true → side_of (name_token n) ≡ Symbols
symbols_side n s = rw s (rw s refl)
