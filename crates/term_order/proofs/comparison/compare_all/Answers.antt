use Rattle.std.proofs.Common.{◌≡◌, ℕ, zero, suc, min, List, [], ◌∷◌, drop, length, refl, sym, ◌∙◌, arith}
use Rattle.std.specs.declared.cmp.Ordering.TheVariants.{Less, Greater}
use Rattle.std.specs.Ordering.{nat_cmp}
use Rattle.std.specs.Cmp.Lexicographic.{slice_cmp}
use Rattle.std.proofs.lemmas.Bool.Decides.{nat_tests}
use Rattle.au_term.specs.declared.cell.Cell.{Cell}
use Rattle.term_order.specs.Cells.{cell_order}
use Rattle.term_order.proofs.comparison.compare_all.Goals as goal

shorter : (n : ℕ) → nat_cmp 0 (suc n) ≡ Less
shorter n = grind (arith, nat_tests)

longer : (n : ℕ) → nat_cmp (suc n) 0 ≡ Greater
longer n = grind (arith, nat_tests)

one_more : (m n : ℕ) → nat_cmp (suc m) (suc n) ≡ nat_cmp m n
one_more m n = grind (arith, nat_tests)

-- where one of two lists ends
ended : (xs ys : List Cell) (at : ℕ) → at ≡ min (length xs) (length ys) → slice_cmp cell_order (drop at xs) (drop at ys) ≡ nat_cmp (length xs) (length ys)
ended [] [] zero e = refl
ended [] [] (suc at) e = absurd (omega arith)
ended [] (y ∷ ys) zero e = sym (shorter (length ys))
ended [] (y ∷ ys) (suc at) e = absurd (omega arith)
ended (x ∷ xs) [] zero e = sym (longer (length xs))
ended (x ∷ xs) [] (suc at) e = absurd (omega arith)
ended (x ∷ xs) (y ∷ ys) zero e = absurd (omega arith)
ended (x ∷ xs) (y ∷ ys) (suc at) e = ended xs ys at (omega arith) ∙ sym (one_more (length xs) (length ys))

pub returns : goal.returns
returns c = c.cmp.ensures ∙ (sym (ended c.args.left.now c.args.right.now c.loop-at.at (omega arith)) ∙ sym c.loop-at.invariant)
