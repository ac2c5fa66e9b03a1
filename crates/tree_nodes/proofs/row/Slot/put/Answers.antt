use Rattle.std.proofs.Common.{arith, refl}
use Rattle.std.proofs.lemmas.Grind.{common_steps}
use Rattle.std.proofs.lemmas.List.{map-set}
use Rattle.tree_nodes.proofs.row.Slot.put.Goals as goal
use Rattle.tree_nodes.proofs.row.Slot.put.Goals.{in-Some, in-None}

pub returns : goal.returns
returns c = elim c.match-self.branch [
  | in-Some w ↦ rw (w.self-inside-is, ← c.self.view_is, w.in-Some.is) (grind (arith, common_steps, map-set, w.in-Some.row-is, w.deref_mut.ensures.value, w.put.ensures))
  | in-None w ↦ rw (w.self-inside-is, ← c.self.view_is, w.in-None.is) refl
]
