-- The library has no fault.
use Rattle.std.proofs.Common.{◌≡◌, Bool, true, false, Option, Some, None, refl}
use Rattle.au_model.specs.Syntax.Tokens.{front}
use Rattle.au_model.specs.Syntax.Layout.{after_layout}
use Rattle.au_model.specs.Syntax.Numerals.{numeral}
use Rattle.au_model.specs.Syntax.Quoted.{quoted}
use Rattle.text_load.specs.LoadedTexts.{first_loading}
use Rattle.toplevel.specs.Library.{IsLibraryLoaded, library_text}
use Rattle.toplevel.proofs.FoundSentences.{FoundSentences, found_sentences}

abbrev is_found : Option (FoundSentences first_loading library_text) → Bool
is_found None = false
is_found (Some f) = true

loaded_by : (f : Option (FoundSentences first_loading library_text)) → is_found f ≡ true → IsLibraryLoaded
loaded_by None e = let f : ⊥ = cc in absurd f
loaded_by (Some f) e = (f.all, f.are)

library_is_found : is_found (found_sentences 40 first_loading library_text) ≡ true
unfolding front after_layout quoted numeral
library_is_found = refl

pub library-loads : IsLibraryLoaded
library-loads = loaded_by (found_sentences 40 first_loading library_text) library_is_found
