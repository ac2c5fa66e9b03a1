-- A text that is put out in pieces.
use Rattle.std.specs.Prelude.{◌≡◌, ◌⊎◌, ◌≤◌, ◌<◌, ◌+◌, ℕ, List, length, take, drop, Option}
use Rattle.au_io.specs.FaultCounts.{Appended}

-- so many of its bytes were put out
pub record HasPutOut (text : List ℕ) (put : ℕ) (before now : Option (List ℕ)) : Type 0 where
  pub front : Appended before now (take put text)
  pub within : put ≤ length text

-- fewer than so many bytes wait, or all that waited were put out
abbrev pub PutsOn : List ℕ → ℕ → ℕ → ℕ → Option (List ℕ) → Option (List ℕ) → Type 0
PutsOn written put least now before after =
    ((length written < put + least) × (now ≡ put) × (after ≡ before))
    ⊎ ((put ≤ length written) × (now ≡ length written) × Appended before after (drop put written))
