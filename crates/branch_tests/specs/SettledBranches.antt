-- Branches that are settled after no other bindings.
use Rattle.std.specs.Prelude.{◌≡◌, ◌+◌, true, ◌++◌}
use Rattle.std.specs.List.{list_all}
use Rattle.au_term.specs.declared.segment.Segment.{Segment}
use Rattle.clause_compile.specs.declared.event.Branch.{Branch}
use Rattle.branch_reading.specs.SettledWays.{are_bindings_settled, is_item_settled}

-- what a segment and a branch after it bind, and what the branch has left, is below the branch's next number
pub record IsBranchSettledAfter (before : Segment) (branch : Branch) : Type 0 where
  pub bindings : are_bindings_settled (branch.segment.base + branch.segment.vars) (before.bindings ++ branch.segment.bindings) ≡ true
  pub items : list_all (is_item_settled (branch.segment.base + branch.segment.vars)) branch.goals ≡ true
