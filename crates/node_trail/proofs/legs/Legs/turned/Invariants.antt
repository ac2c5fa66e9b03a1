use Rattle.std.proofs.Common.{◌≡◌, ◌++◌, length}
use Rattle.std.specs.Prelude.{reverse}
use Rattle.node_trail.specs.Segments.{all_some}
use Rattle.node_trail.proofs.legs.Legs.turned.Given as goal

abbrev pub invariant-loop-last : goal.invariant-loop-last
invariant-loop-last l = l.legs ++ reverse (all_some l.left.items) ≡ reverse l.fn.self

abbrev pub decreases-loop-last : goal.decreases-loop-last
decreases-loop-last l = length l.left.items
