-- The order of cells is total, and so is that of lists of cells.
use Rattle.std.proofs.Common.{◌≡◌, ℕ, ◌<◌, ℤ, ◌<ℤ◌, pos, List, [], ◌∷◌, refl, sym, ap, ap₂, ◌∙◌, subst}
use Rattle.std.specs.declared.cmp.Ordering.{Ordering}
use Rattle.std.specs.declared.cmp.Ordering.TheVariants.{Less, Equal, Greater}
use Rattle.std.specs.Ordering.{nat_cmp, int_cmp, ordering_then, on, then_cmp, is_eq, MatchOrdering}
use Rattle.std.specs.Cmp.{IsTotalOrder}
use Rattle.std.specs.Cmp.Lexicographic.{slice_cmp, same_text, texts_ties}
use Rattle.std.proofs.lemmas.Cmp.{on_total, then_total, nat_cmp_total, int_cmp_total, nat_list_cmp_total, ranked, int_ranked}
use Rattle.au_term.specs.declared.cell.Cell.{Cell}
use Rattle.au_term.specs.declared.cell.Cell.TheVariants.{Var as VarCell, Int as IntCell, Atom as AtomCell, Functor}
use Rattle.term_order.specs.Cells.{cell_order}

-- variables, integers, atoms, compounds; and what two of one kind are compared by
abbrev kind : Cell → ℕ
kind (VarCell n) = 0
kind (IntCell z) = 1
kind (AtomCell a) = 2
kind (Functor f n) = 3

abbrev number : Cell → ℕ
number (VarCell n) = n
number (IntCell z) = 0
number (AtomCell a) = 0
number (Functor f n) = n

abbrev integer : Cell → ℤ
integer (VarCell n) = pos 0
integer (IntCell z) = z
integer (AtomCell a) = pos 0
integer (Functor f n) = pos 0

abbrev name : Cell → List ℕ
name (VarCell n) = []
name (IntCell z) = []
name (AtomCell a) = a
name (Functor f n) = f

abbrev by_parts : Cell → Cell → Ordering
by_parts = then_cmp (on kind nat_cmp) (then_cmp (on number nat_cmp) (then_cmp (on integer int_cmp) (on name (slice_cmp nat_cmp))))

pub then_equal : (o : Ordering) → ordering_then o Equal ≡ o
then_equal Less = refl
then_equal Equal = refl
then_equal Greater = refl

parts_are : (c d : Cell) → by_parts c d ≡ cell_order c d
parts_are (VarCell m) (VarCell n) = then_equal (nat_cmp m n)
parts_are (VarCell m) (IntCell z) = refl
parts_are (VarCell m) (AtomCell b) = refl
parts_are (VarCell m) (Functor g n) = refl
parts_are (IntCell y) (VarCell n) = refl
parts_are (IntCell y) (IntCell z) = then_equal (int_cmp y z)
parts_are (IntCell y) (AtomCell b) = refl
parts_are (IntCell y) (Functor g n) = refl
parts_are (AtomCell a) (VarCell n) = refl
parts_are (AtomCell a) (IntCell z) = refl
parts_are (AtomCell a) (AtomCell b) = refl
parts_are (AtomCell a) (Functor g n) = refl
parts_are (Functor f m) (VarCell n) = refl
parts_are (Functor f m) (IntCell z) = refl
parts_are (Functor f m) (AtomCell b) = refl
parts_are (Functor f m) (Functor g n) = refl

pub cells_total : IsTotalOrder cell_order
cells_total = subst IsTotalOrder (λ i c d. parts_are c d i) (then_total (on_total kind nat_cmp_total) (then_total (on_total number nat_cmp_total) (then_total (on_total integer int_cmp_total) (on_total name nat_list_cmp_total))))

-- equal cells are the same
pub same_number : (m n : ℕ) → nat_cmp m n ≡ Equal → m ≡ n
same_number m n h = subst (λ o. MatchOrdering o (m < n) (m ≡ n) (n < m)) h (ranked m n (nat_cmp m n) refl)

same_integer : (y z : ℤ) → int_cmp y z ≡ Equal → y ≡ z
same_integer y z h = subst (λ o. MatchOrdering o (y <ℤ z) (y ≡ z) (z <ℤ y)) h (int_ranked y z (int_cmp y z) refl)

same_list : (a b : List ℕ) → slice_cmp nat_cmp a b ≡ Equal → a ≡ b
same_list a b h = same_text a b (sym (texts_ties a b ∙ ap is_eq h))

first_equal : (o p : Ordering) → ordering_then o p ≡ Equal → o ≡ Equal
first_equal Less p h = h
first_equal Equal p h = refl
first_equal Greater p h = h

second_equal : (o p : Ordering) → ordering_then o p ≡ Equal → p ≡ Equal
second_equal Less p h = absurd cc
second_equal Equal p h = h
second_equal Greater p h = absurd cc

pub same_cell : (c d : Cell) → cell_order c d ≡ Equal → c ≡ d
same_cell (VarCell m) (VarCell n) h = ap VarCell (same_number m n h)
same_cell (VarCell m) (IntCell z) h = absurd cc
same_cell (VarCell m) (AtomCell b) h = absurd cc
same_cell (VarCell m) (Functor g n) h = absurd cc
same_cell (IntCell y) (VarCell n) h = absurd cc
same_cell (IntCell y) (IntCell z) h = ap IntCell (same_integer y z h)
same_cell (IntCell y) (AtomCell b) h = absurd cc
same_cell (IntCell y) (Functor g n) h = absurd cc
same_cell (AtomCell a) (VarCell n) h = absurd cc
same_cell (AtomCell a) (IntCell z) h = absurd cc
same_cell (AtomCell a) (AtomCell b) h = ap AtomCell (same_list a b h)
same_cell (AtomCell a) (Functor g n) h = absurd cc
same_cell (Functor f m) (VarCell n) h = absurd cc
same_cell (Functor f m) (IntCell z) h = absurd cc
same_cell (Functor f m) (AtomCell b) h = absurd cc
same_cell (Functor f m) (Functor g n) h = ap₂ Functor (same_list f g (second_equal (nat_cmp m n) (slice_cmp nat_cmp f g) h)) (same_number m n (first_equal (nat_cmp m n) (slice_cmp nat_cmp f g) h))

pub same_cells : (cs ds : List Cell) → slice_cmp cell_order cs ds ≡ Equal → cs ≡ ds
same_cells [] [] h = refl
same_cells [] (d ∷ ds) h = absurd cc
same_cells (c ∷ cs) [] h = absurd cc
same_cells (c ∷ cs) (d ∷ ds) h =
    ap₂ (λ x xs. x ∷ xs) (same_cell c d (first_equal (cell_order c d) (slice_cmp cell_order cs ds) h)) (same_cells cs ds (second_equal (cell_order c d) (slice_cmp cell_order cs ds) h))
