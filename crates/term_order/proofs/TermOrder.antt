-- The standard order is that of the terms' cells.
use Rattle.std.proofs.Common.{◌≡◌, ℕ, List, [], ◌++◌, refl, sym, ap, ap₂, ◌∙◌, subst, append_assoc, append-nil, arith}
use Rattle.std.specs.declared.cmp.Ordering.{Ordering}
use Rattle.std.specs.declared.cmp.Ordering.TheVariants.{Less, Equal, Greater}
use Rattle.std.specs.Ordering.{nat_cmp, ordering_then}
use Rattle.std.specs.Cmp.{IsTotalOrder}
use Rattle.std.specs.Cmp.Lexicographic.{slice_cmp}
use Rattle.std.proofs.lemmas.Cmp.{on_total, lists_total, tied_itself}
use Rattle.au_term.specs.Term.{Term, VarTerm, IntTerm, AtomTerm, Compound, Terms, end, more, count}
use Rattle.au_term.specs.PrefixOrder.{cells_of, all_cells, term_of, term_of-cells_of}
use Rattle.au_term.specs.declared.cell.Cell.{Cell}
use Rattle.run_model.specs.Goals.StandardOrder.{order, order_all, IsOrderOfTerms}
use Rattle.term_order.specs.Cells.{cell_order}
use Rattle.term_order.proofs.CellOrder.{cells_total, same_cells, same_number, then_equal}

then_assoc : (o p q : Ordering) → ordering_then (ordering_then o p) q ≡ ordering_then o (ordering_then p q)
then_assoc Less p q = refl
then_assoc Equal p q = refl
then_assoc Greater p q = refl

-- the numbers of arguments are the same wherever the order of the arguments is asked for
counted : (m n : ℕ) (p q r s : Ordering) → (nat_cmp m n ≡ Equal → q ≡ ordering_then r s) → ordering_then (ordering_then (nat_cmp m n) p) q ≡ ordering_then (ordering_then (nat_cmp m n) (ordering_then p r)) s
counted m n p q r s h = by (nat_cmp m n) h
  where
    by : (o : Ordering) → (o ≡ Equal → q ≡ ordering_then r s) → ordering_then (ordering_then o p) q ≡ ordering_then (ordering_then o (ordering_then p r)) s
    by Less k = refl
    by Equal k = ap (ordering_then p) (k refl) ∙ sym (then_assoc p r s)
    by Greater k = refl

mutual
  cells_decide : (t u : Term) (cs ds : List Cell) → slice_cmp cell_order (cells_of t ++ cs) (cells_of u ++ ds) ≡ ordering_then (order t u) (slice_cmp cell_order cs ds)
  cells_decide (VarTerm m) (VarTerm n) cs ds = refl
  cells_decide (VarTerm m) (IntTerm z) cs ds = refl
  cells_decide (VarTerm m) (AtomTerm b) cs ds = refl
  cells_decide (VarTerm m) (Compound g us) cs ds = refl
  cells_decide (IntTerm y) (VarTerm n) cs ds = refl
  cells_decide (IntTerm y) (IntTerm z) cs ds = refl
  cells_decide (IntTerm y) (AtomTerm b) cs ds = refl
  cells_decide (IntTerm y) (Compound g us) cs ds = refl
  cells_decide (AtomTerm a) (VarTerm n) cs ds = refl
  cells_decide (AtomTerm a) (IntTerm z) cs ds = refl
  cells_decide (AtomTerm a) (AtomTerm b) cs ds = refl
  cells_decide (AtomTerm a) (Compound g us) cs ds = refl
  cells_decide (Compound f ts) (VarTerm n) cs ds = refl
  cells_decide (Compound f ts) (IntTerm z) cs ds = refl
  cells_decide (Compound f ts) (AtomTerm b) cs ds = refl
  cells_decide (Compound f ts) (Compound g us) cs ds =
      counted (count ts) (count us) (slice_cmp nat_cmp f g) (slice_cmp cell_order (all_cells ts ++ cs) (all_cells us ++ ds)) (order_all ts us) (slice_cmp cell_order cs ds)
      (λ h. all_decide ts us cs ds (same_number (count ts) (count us) h))

  all_decide : (ts us : Terms) (cs ds : List Cell) → count ts ≡ count us → slice_cmp cell_order (all_cells ts ++ cs) (all_cells us ++ ds) ≡ ordering_then (order_all ts us) (slice_cmp cell_order cs ds)
  all_decide end end cs ds e = refl
  all_decide end (more u us) cs ds e = absurd (omega (arith, e))
  all_decide (more t ts) end cs ds e = absurd (omega (arith, e))
  all_decide (more t ts) (more u us) cs ds e =
      ap₂ (slice_cmp cell_order) (append_assoc (cells_of t) (all_cells ts) cs) (append_assoc (cells_of u) (all_cells us) ds)
      ∙ (cells_decide t u (all_cells ts ++ cs) (all_cells us ++ ds)
      ∙ (ap (ordering_then (order t u)) (all_decide ts us cs ds (omega (arith, e))) ∙ sym (then_assoc (order t u) (order_all ts us) (slice_cmp cell_order cs ds))))

pub order_of_cells : (t u : Term) → slice_cmp cell_order (cells_of t) (cells_of u) ≡ order t u
order_of_cells t u = ap₂ (slice_cmp cell_order) (sym (append-nil (cells_of t))) (sym (append-nil (cells_of u))) ∙ (cells_decide t u [] [] ∙ then_equal (order t u))

pub terms_total : IsTotalOrder order
terms_total = subst IsTotalOrder (λ i t u. order_of_cells t u i) (on_total cells_of (lists_total cells_total))

pub same_term : (t u : Term) → order t u ≡ Equal → t ≡ u
same_term t u h = sym (term_of-cells_of t) ∙ (ap term_of (same_cells (cells_of t) (cells_of u) (order_of_cells t u ∙ h)) ∙ term_of-cells_of u)

pub ordered_terms : IsOrderOfTerms
ordered_terms = record { total = terms_total; same = same_term; equal = tied_itself terms_total }
