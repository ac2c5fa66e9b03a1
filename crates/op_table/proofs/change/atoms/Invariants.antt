use Rattle.std.proofs.Common.{◌≡◌, map, take, drop}
use Rattle.au_term.specs.Term.{AtomTerm}
use Rattle.op_table.specs.Arguments.{no_atom_error}
use Rattle.op_table.proofs.change.atoms.Given as goal

abbrev pub invariant-loop-item : goal.invariant-loop-item
invariant-loop-item l = record {
  passed : no_atom_error l.items ≡ no_atom_error (drop l.item-index l.items);
  read : take l.item-index l.items ≡ map AtomTerm l.names.items;
}
