-- What holds of every run, layout and token.
use Rattle.std.specs.Prelude.{◌≡◌, ℕ, Bool, true, false, List, ◌++◌, IsCharBoundary}
use Rattle.std.specs.List.{list_all}
use Rattle.std.specs.Str.{IsUtf8}
use Rattle.au_model.specs.Syntax.Characters.{run, after_run, first_passes, chars_from}
use Rattle.au_model.specs.Syntax.Layout.{GapThen, after_layout, begins_layout}

-- a front of characters that pass, and no longer one
pub record IsLongestPrefix (p : ℕ → Bool) (cs front rest : List ℕ) : Type 0 where
  pub whole : front ++ rest ≡ cs
  pub passes : list_all p front ≡ true
  pub stops : first_passes p rest ≡ false

abbrev pub RunsAreLongest : Type 0
RunsAreLongest = (p : ℕ → Bool) (cs : List ℕ) → IsLongestPrefix p cs (run p cs) (after_run p cs)

-- what is left after layout begins with none
abbrev pub LayoutIsLongest : Type 0
LayoutIsLongest = (cs rest : List ℕ) → after_layout cs ≡ GapThen rest → begins_layout rest ≡ false

-- a place is told by the characters from it on
abbrev pub PlacesAreUnique : Type 0
PlacesAreUnique = (text : List ℕ) (i j : ℕ) → IsUtf8 text → IsCharBoundary text i → IsCharBoundary text j → chars_from text i ≡ chars_from text j → i ≡ j
