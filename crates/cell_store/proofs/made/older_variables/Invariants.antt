use Rattle.cell_store.proofs.OlderBindingLemmas.{HasOlder, AreAllOlder}
use Rattle.cell_store.proofs.made.older_variables.Given as goal

abbrev pub invariant-loop-variable : goal.invariant-loop-variable
invariant-loop-variable l = record {
  all : HasOlder l.trail l.below l.variable-index l.older.items;
  others : AreAllOlder l.trail l.below l.older.items;
}
