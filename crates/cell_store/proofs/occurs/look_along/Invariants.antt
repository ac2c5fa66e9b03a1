use Rattle.std.proofs.Common.{◌≡◌}
use Rattle.cell_store.specs.StoreView.{text_in}
use Rattle.cell_store.specs.Arguments.{AreThere, is_in_any}
use Rattle.cell_store.specs.declared.arguments.Arguments.{Arguments}
use Rattle.cell_store.proofs.occurs.look_along.Given as goal

abbrev pub invariant-loop-at : goal.invariant-loop-at
invariant-loop-at l =
    let a : Arguments = record { at = l.at; base = l.base; count = l.count } in
    (is_in_any l.store l.variable a ≡ is_in_any l.store l.variable l.fn.arguments) × AreThere (text_in l.store) l.store.now.next a

abbrev pub decreases-loop-at : goal.decreases-loop-at
decreases-loop-at l = l.count
