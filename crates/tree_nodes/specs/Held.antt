-- How many alternatives of a table are ready, and how many wait.
use Rattle.std.specs.Prelude.{◌≡◌, ◌<◌, ◌+◌, ℕ, Bool, true, false, cond, List, [], ◌∷◌, Option, Some, None}
use Rattle.tree_model.specs.Credits.{greatest}
use Rattle.tree_model.specs.Legality.{is_ready}
use Rattle.tree_model.specs.Levels.{Place}
use Rattle.tree_model.specs.Nodes.{Hold, Ready, TakenBy, Waiting, Dormant}
use Rattle.tree_nodes.specs.Rows.{AlternativeCell, PendingCell, InnerCell, ClosedCell, Rows, alternatives_at, cell_at}
use Rattle.tree_nodes.specs.declared.held.Held.{Held}

abbrev pub is_waiting : Hold → Bool
is_waiting Ready = false
is_waiting (TakenBy w) = false
is_waiting (Waiting g) = true
is_waiting Dormant = false

-- one where there is an entry that is held so
abbrev pub one_held : (Hold → Bool) → AlternativeCell → ℕ
one_held sort (PendingCell hold) = cond (sort hold) 1 0
one_held sort (InnerCell n) = 0
one_held sort (ClosedCell credit) = 0

abbrev pub held_at : (Hold → Bool) → Option (ℕ × AlternativeCell) → ℕ
held_at sort None = 0
held_at sort (Some c) = one_held sort c.1

abbrev pub held_among : (Hold → Bool) → List (ℕ × AlternativeCell) → ℕ
held_among sort [] = 0
held_among sort (c ∷ cells) = one_held sort c.1 + held_among sort cells

abbrev pub held_in : (Hold → Bool) → Rows → ℕ
held_in sort [] = 0
held_in sort (r ∷ rows) = held_among sort (alternatives_at r) + held_in sort rows

-- a count is right below the greatest number, and stays there once it came to it
abbrev pub IsCountOf : ℕ → ℕ → Type 0
IsCountOf n many = n < greatest → n ≡ many

abbrev pub AddsCount : ℕ → ℕ → ℕ → Type 0
AddsCount n m sum = (many more : ℕ) → IsCountOf n many → IsCountOf m more → IsCountOf sum (many + more)

abbrev pub TakesCount : ℕ → ℕ → ℕ → Type 0
TakesCount n m rest = (many : ℕ) → IsCountOf n (many + m) → IsCountOf rest many

-- of some alternatives
pub record AreHeldAmong (h : Held) (cells : List (ℕ × AlternativeCell)) : Type 0 where
  pub ready : IsCountOf h.ready (held_among is_ready cells)
  pub waiting : IsCountOf h.waiting (held_among is_waiting cells)

-- of a whole table
pub record AreHeldIn (h : Held) (rows : Rows) : Type 0 where
  pub ready : IsCountOf h.ready (held_in is_ready rows)
  pub waiting : IsCountOf h.waiting (held_in is_waiting rows)

-- no entry of the table is held so
abbrev pub HasNone : (Hold → Bool) → Rows → Type 0
HasNone sort rows = (a : Place) (spent : ℕ) (hold : Hold) → cell_at rows a ≡ Some (spent, PendingCell hold) → sort hold ≡ false
