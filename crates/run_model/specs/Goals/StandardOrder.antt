-- The standard order of terms (ISO/IEC 13211-1, 7.2): variables by their numbers, then integers, then atoms by their
-- characters' codes, then compounds by number of arguments, name, and arguments from the left.
use Rattle.std.specs.Prelude.{◌≡◌}
use Rattle.std.specs.declared.cmp.Ordering.{Ordering}
use Rattle.std.specs.declared.cmp.Ordering.TheVariants.{Less, Equal, Greater}
use Rattle.std.specs.Ordering.{nat_cmp, int_cmp, ordering_then}
use Rattle.std.specs.Cmp.{IsTotalOrder}
use Rattle.std.specs.Cmp.Lexicographic.{slice_cmp}
use Rattle.au_term.specs.Term.{Term, VarTerm, IntTerm, AtomTerm, Compound, Terms, end, more, count}

abbrev mutual
  pub order : Term → Term → Ordering
  order (VarTerm m) (VarTerm n) = nat_cmp m n
  order (VarTerm m) u = Less
  order (IntTerm y) (VarTerm n) = Greater
  order (IntTerm y) (IntTerm z) = int_cmp y z
  order (IntTerm y) u = Less
  order (AtomTerm a) (VarTerm n) = Greater
  order (AtomTerm a) (IntTerm z) = Greater
  order (AtomTerm a) (AtomTerm b) = slice_cmp nat_cmp a b
  order (AtomTerm a) (Compound g us) = Less
  order (Compound f ts) (Compound g us) = ordering_then (nat_cmp (count ts) (count us)) (ordering_then (slice_cmp nat_cmp f g) (order_all ts us))
  order (Compound f ts) u = Greater

  -- from the left, of as many terms
  pub order_all : Terms → Terms → Ordering
  order_all end end = Equal
  order_all end (more u us) = Less
  order_all (more t ts) end = Greater
  order_all (more t ts) (more u us) = ordering_then (order t u) (order_all ts us)

-- the order is total, and tells apart exactly the terms that are not the same
pub record IsOrderOfTerms : Type 0 where
  pub total : IsTotalOrder order
  pub same : (t u : Term) → order t u ≡ Equal → t ≡ u
  pub equal : (t : Term) → order t t ≡ Equal
