-- Segments of nodes and branches.
use Rattle.std.specs.Prelude.{ℕ, ◌<◌, List, [], ◌∷◌, Option, Some, None, length, slice_get}
use Rattle.au_term.specs.declared.segment.Segment.{Segment}
use Rattle.clause_compile.specs.declared.event.Branch.{Branch}
use Rattle.tree_nodes.specs.Bodies.{Body}

abbrev pub no_segment : Segment
no_segment = record { base = 0; vars = 0; bindings = [] }

abbrev pub segment_in : Option Branch → Segment
segment_in None = no_segment
segment_in (Some b) = b.segment

abbrev pub branch_segment : ℕ → List Branch → Segment
branch_segment i branches = segment_in (slice_get branches i)

abbrev pub leg_segment : Body → Option ℕ → Segment
leg_segment b None = b.segment
leg_segment b (Some i) = branch_segment i b.branches

abbrev pub HasBranch : Body → Option ℕ → Type 0
HasBranch b None = Unit {0}
HasBranch b (Some i) = i < length b.branches

-- those that are there
abbrev pub all_some : List (Option Segment) → List Segment
all_some [] = []
all_some (None ∷ os) = all_some os
all_some (Some s ∷ os) = s ∷ all_some os
