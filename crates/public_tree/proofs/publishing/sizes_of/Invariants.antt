use Rattle.std.proofs.Common.{◌≡◌, take}
use Rattle.public_tree.specs.Publishing.{bodies_view, body_sizes}
use Rattle.public_tree.proofs.publishing.sizes_of.Given as goal

abbrev pub invariant-loop-body : goal.invariant-loop-body
invariant-loop-body l = l.sizes.items ≡ body_sizes (bodies_view (take l.body-index l.bodies))
