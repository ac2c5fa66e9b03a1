-- The standard order cell by cell.
use Rattle.std.specs.declared.cmp.Ordering.{Ordering}
use Rattle.std.specs.declared.cmp.Ordering.TheVariants.{Less, Greater}
use Rattle.std.specs.Ordering.{nat_cmp, int_cmp, ordering_then}
use Rattle.std.specs.Cmp.Lexicographic.{slice_cmp}
use Rattle.au_term.specs.declared.cell.Cell.{Cell}
use Rattle.au_term.specs.declared.cell.Cell.TheVariants.{Var as VarCell, Int as IntCell, Atom as AtomCell, Functor}

abbrev pub cell_order : Cell → Cell → Ordering
cell_order (VarCell m) (VarCell n) = nat_cmp m n
cell_order (VarCell m) (IntCell z) = Less
cell_order (VarCell m) (AtomCell b) = Less
cell_order (VarCell m) (Functor g n) = Less
cell_order (IntCell y) (VarCell n) = Greater
cell_order (IntCell y) (IntCell z) = int_cmp y z
cell_order (IntCell y) (AtomCell b) = Less
cell_order (IntCell y) (Functor g n) = Less
cell_order (AtomCell a) (VarCell n) = Greater
cell_order (AtomCell a) (IntCell z) = Greater
cell_order (AtomCell a) (AtomCell b) = slice_cmp nat_cmp a b
cell_order (AtomCell a) (Functor g n) = Less
cell_order (Functor f m) (VarCell n) = Greater
cell_order (Functor f m) (IntCell z) = Greater
cell_order (Functor f m) (AtomCell b) = Greater
cell_order (Functor f m) (Functor g n) = ordering_then (nat_cmp m n) (slice_cmp nat_cmp f g)
