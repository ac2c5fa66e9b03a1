use Rattle.std.proofs.Common.{◌≡◌, ◌++◌, take}
use Rattle.tree_nodes.proofs.records.copy_behind.Given as goal

abbrev pub invariant-loop-record : goal.invariant-loop-record
invariant-loop-record l = l.out.items ≡ l.initial.out.items ++ take l.record-index l.records
