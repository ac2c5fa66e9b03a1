-- How far a text agrees, from a place on, with its beginning.
use Rattle.std.specs.Prelude.{◌≡◌, ◌+◌, ◌-◌, ◌<◌, ◌≤◌, ℕ, List, length, get_or}
use Rattle.std_builtins.specs.declared.agreement.Stretch.{Stretch}

-- the first so many characters are those of the beginning
abbrev pub AgreeFor : List ℕ → ℕ → ℕ → Type 0
AgreeFor cs at k = (j : ℕ) → j < k → get_or cs (at + j) 0 ≡ get_or cs j 0

-- and no more of them
pub record IsAgreement (cs : List ℕ) (at : ℕ) (k : ℕ) : Type 0 where
  pub agree : AgreeFor cs at k
  pub within : at + k ≤ length cs
  pub most : at + k < length cs → get_or cs (at + k) 0 ≡ get_or cs k 0 → ⊥

-- at each place but the beginning
abbrev pub AreAgreements : List ℕ → List ℕ → Type 0
AreAgreements cs ks = (length cs ≤ length ks) × ((i : ℕ) → 1 ≤ i → i < length cs → IsAgreement cs i (get_or ks i 0))

-- what holds of the places before a place
abbrev pub AreKnown : List ℕ → ℕ → List ℕ → Type 0
AreKnown cs place ks = (length ks ≡ place) × ((i : ℕ) → i < place → AgreeFor cs i (get_or ks i 0))

pub record IsStretch (cs : List ℕ) (place : ℕ) (w : Stretch) : Type 0 where
  pub later : 1 ≤ w.from
  pub before : w.from ≤ place
  pub within : w.to ≤ length cs
  pub agree : AgreeFor cs w.from (w.to - w.from)
