-- Names by number.
use Rattle.std.specs.Prelude.{◌≡◌, ◌⊎◌, ℕ, suc, ◌<◌, cond, List, [], ◌∷◌, ◌++◌, length, get_or, Option, Some, None, option_map}
use Rattle.std.specs.BTreeMap.{BTreeMap, get}
use Rattle.std.specs.Cmp.Lexicographic.{slice_cmp}
use Rattle.std.specs.Ordering.{nat_cmp}
use Rattle.au_term.specs.declared.atom.Atom.{Atom}
use Rattle.au_model.specs.Terms.Forms.{same_name}

-- the name with a number
abbrev pub name_at : List (List ℕ) → ℕ → List ℕ
name_at names n = get_or names n []

-- the number of a name, if it has one
abbrev pub number_of_name : List (List ℕ) → List ℕ → Option ℕ
number_of_name [] a = None
number_of_name (n ∷ ns) a = cond (same_name n a) (Some 0) (option_map (λ i. suc i) (number_of_name ns a))

-- no two names are the same
abbrev pub AreDistinct : List (List ℕ) → Type 0
AreDistinct names = (i j : ℕ) → i < length names → j < length names → name_at names i ≡ name_at names j → i ≡ j

-- the map has the number of each name
pub record IsNumbering (names : List (List ℕ)) (numbers : BTreeMap Atom ℕ) : Type 0 where
  pub found : (a : List ℕ) → get (slice_cmp nat_cmp) numbers a ≡ number_of_name names a
  pub distinct : AreDistinct names

-- a name has this number, and the others keep theirs
pub record IsNumbered (old new : List (List ℕ)) (name : List ℕ) (number : ℕ) : Type 0 where
  pub more : List (List ℕ)
  pub is : new ≡ old ++ more
  pub few : (more ≡ []) ⊎ (more ≡ name ∷ [])
  pub within : number < length new
  pub named : name_at new number ≡ name
