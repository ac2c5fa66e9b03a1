use Rattle.std.proofs.Common.{◌≡◌, ◌+◌, ◌-◌, ◌++◌, ◌≤◌}
use Rattle.std.specs.Prelude.{vec_len, vec_capacity}
use Rattle.tree_nodes.specs.Skipping.{no_rows}
use Rattle.tree_nodes.proofs.table.push_gone.Given as goal

abbrev pub invariant-loop-i : goal.invariant-loop-i
invariant-loop-i l = record {
  items : l.slots.items ≡ l.initial.slots.items ++ no_rows l._i;
  room : vec_len l.slots + (l.count - l._i) ≤ vec_capacity l.slots;
}
