-- Alternatives beside each other: how many are open, and what those that are passed have closed with.
use Rattle.std.specs.Prelude.{◌≡◌, ◌≤◌, ◌+◌, ℕ, true, cond, List, [], ◌∷◌, Option, Some, None, length, take}
use Rattle.tree_model.specs.Credits.{counted}
use Rattle.tree_nodes.specs.declared.siblings.Alternative.{Alternative}
use Rattle.tree_nodes.specs.declared.siblings.Passed.{Passed}
use Rattle.tree_nodes.specs.Rows.{AlternativeCell, PendingCell, InnerCell, ClosedCell, cell_view}
use Rattle.tree_nodes.specs.Gathering.{is_shut, are_shut}
use Rattle.tree_nodes.specs.declared.gaps.Gap.{Gap}
use Rattle.tree_nodes.specs.Gaps.{AreGaps}

abbrev pub alternative_view : Alternative → ℕ × AlternativeCell
alternative_view a = (a.spent, cell_view a.state)

-- answers and inferences
abbrev pub closed_counts : AlternativeCell → ℕ × ℕ
closed_counts (PendingCell hold) = (0, 0)
closed_counts (InnerCell n) = (0, 0)
closed_counts (ClosedCell credit) = (credit.answers, credit.inferences)

abbrev pub counts_in : Option (ℕ × AlternativeCell) → ℕ × ℕ
counts_in None = (0, 0)
counts_in (Some c) = closed_counts c.1

abbrev pub counts_from : ℕ × ℕ → List (ℕ × AlternativeCell) → ℕ × ℕ
counts_from n [] = n
counts_from n (c ∷ cells) = counts_from (counted n.0 (closed_counts c.1).0, counted n.1 (closed_counts c.1).1) cells

-- both have closed, with the same counts
pub record CountsAs (was now : AlternativeCell) : Type 0 where
  pub was_shut : is_shut was ≡ true
  pub now_shut : is_shut now ≡ true
  pub counts : closed_counts was ≡ closed_counts now

-- how many have not closed
abbrev pub one_open : AlternativeCell → ℕ
one_open c = cond (is_shut c) 0 1

abbrev pub open_count : List (ℕ × AlternativeCell) → ℕ
open_count [] = 0
open_count (c ∷ cells) = one_open c.1 + open_count cells

-- so many from the left have closed, with these counts
pub record ArePassed (cells : List (ℕ × AlternativeCell)) (p : Passed) : Type 0 where
  pub many : p.many ≤ length cells
  pub shut : are_shut (take p.many cells) ≡ true
  pub counts : counts_from (0, 0) (take p.many cells) ≡ (p.answers, p.inferences)

-- what is kept beside alternatives: how many are open, and how far the left has been passed
pub record AreCounted (many_open : ℕ) (p : Passed) (cells : List (ℕ × AlternativeCell)) : Type 0 where
  pub open_are : many_open ≡ open_count cells
  pub passed : ArePassed cells p

-- what is kept of all
pub record AreTold (many_open : ℕ) (p : Passed) (gaps : List Gap) (cells : List (ℕ × AlternativeCell)) : Type 0 where
  pub counted : AreCounted many_open p cells
  pub beside : AreGaps gaps cells
