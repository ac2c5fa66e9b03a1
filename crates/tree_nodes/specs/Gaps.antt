-- Alternatives beside each other: how many next to each one, without a break, have closed.
use Rattle.std.specs.Prelude.{◌≡◌, ◌⊎◌, ◌<◌, ◌≤◌, ◌+◌, ℕ, Bool, true, List, length, slice_set, Option, Some, None, slice_get}
use Rattle.tree_nodes.specs.declared.gaps.Gap.{Gap}
use Rattle.tree_nodes.specs.Rows.{AlternativeCell}
use Rattle.tree_nodes.specs.Gathering.{is_shut}

abbrev pub right_of_gap : Option Gap → ℕ
right_of_gap None = 0
right_of_gap (Some g) = g.right

abbrev pub left_of_gap : Option Gap → ℕ
left_of_gap None = 0
left_of_gap (Some g) = g.left

-- so many to the right of an alternative, and to its left
abbrev pub right_of_gap_at : List Gap → ℕ → ℕ
right_of_gap_at gaps i = right_of_gap (slice_get gaps i)

abbrev pub left_of_gap_at : List Gap → ℕ → ℕ
left_of_gap_at gaps i = left_of_gap (slice_get gaps i)

-- an alternative that has closed, or none
abbrev pub shut_or_past : Option (ℕ × AlternativeCell) → Bool
shut_or_past None = true
shut_or_past (Some c) = is_shut c.1

abbrev pub IsShutAt : List (ℕ × AlternativeCell) → ℕ → Type 0
IsShutAt cells j = shut_or_past (slice_get cells j) ≡ true

pub record AreGaps (gaps : List Gap) (cells : List (ℕ × AlternativeCell)) : Type 0 where
  pub right : (i j : ℕ) → i < j → j ≤ i + right_of_gap_at gaps i → IsShutAt cells j
  pub left : (i j : ℕ) → j < i → i ≤ j + left_of_gap_at gaps i → IsShutAt cells j

-- nothing is said of any alternative
abbrev pub IsFlat : List Gap → Type 0
IsFlat gaps = (i : ℕ) → (right_of_gap_at gaps i ≡ 0) × (left_of_gap_at gaps i ≡ 0)

-- at one alternative there is another number on this side, if anything
pub record IsRightSet (old new : List Gap) (at right : ℕ) : Type 0 where
  pub rights : (i : ℕ) → (right_of_gap_at new i ≡ right_of_gap_at old i) ⊎ ((i ≡ at) × (right_of_gap_at new i ≡ right))
  pub lefts : (i : ℕ) → left_of_gap_at new i ≡ left_of_gap_at old i

pub record IsLeftSet (old new : List Gap) (at left : ℕ) : Type 0 where
  pub rights : (i : ℕ) → right_of_gap_at new i ≡ right_of_gap_at old i
  pub lefts : (i : ℕ) → (left_of_gap_at new i ≡ left_of_gap_at old i) ⊎ ((i ≡ at) × (left_of_gap_at new i ≡ left))

-- where an alternative has closed, what is said then holds
abbrev pub ShutsGap : List Gap → List Gap → ℕ → Type 0
ShutsGap old new i = (cells : List (ℕ × AlternativeCell)) → IsShutAt cells i → AreGaps old cells → AreGaps new cells

-- where an alternative changes, which had closed or not and has now closed or not
abbrev pub Regaps : List Gap → List Gap → ℕ → Bool → Bool → Type 0
Regaps old new i was now =
    (cells : List (ℕ × AlternativeCell)) (x : ℕ × AlternativeCell) → i < length cells → shut_or_past (slice_get cells i) ≡ was → is_shut x.1 ≡ now
    → AreGaps old cells → AreGaps new (slice_set cells i x)

-- those between have closed
pub record IsNextAfter (cells : List (ℕ × AlternativeCell)) (i n : ℕ) : Type 0 where
  pub further : i < n
  pub shut : (j : ℕ) → i < j → j < n → IsShutAt cells j
