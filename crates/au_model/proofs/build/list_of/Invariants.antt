use Rattle.std.proofs.Common.{◌≡◌, ◌++◌, drop}
use Rattle.au_term.specs.PrefixOrder.{cells_of}
use Rattle.au_model.specs.Terms.Forms.{list_term}
use Rattle.au_model.proofs.build.list_of.Given as goal

abbrev pub invariant-loop-item : goal.invariant-loop-item
invariant-loop-item l = l.builder ++ cells_of (list_term (drop l.item-index l.items)) ≡ cells_of (list_term l.items)
