use Rattle.std.proofs.Common.{length, ap, arith}
use Rattle.std.proofs.lemmas.Grind.{common_steps}
use Rattle.tree_nodes.specs.declared.row.Row.{Row}
use Rattle.tree_nodes.proofs.row.Slot.new.Goals as goal

pub invariant_of-result : goal.invariant_of-result
invariant_of-result c =
    let row = ap (λ (r : Row). length r.alternatives) c.in_ok-new.ensures.ok in
    grind (arith, common_steps, row, c.in_ok-siblings.ensures, c.in_ok-alternatives.ensures.many)
