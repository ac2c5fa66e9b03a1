-- What is left behind a first goal.
use Rattle.std.proofs.Common.{◌≡◌, ℕ, List, [], ◌∷◌, Option, Some, None, slice_get, refl, sym, ap, ◌∙◌, arith}
use Rattle.clause_compile.specs.declared.item.Item.{Item as BranchItem}
use Rattle.branch_shapes.specs.RestBodies.{items_behind}

pub nothing_left : (items : List BranchItem) → slice_get items 0 ≡ None → items ≡ items_behind items
nothing_left [] e = refl
nothing_left (i ∷ items) e = absurd cc
