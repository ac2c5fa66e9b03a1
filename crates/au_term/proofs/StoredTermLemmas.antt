-- What is known of a kept term, and of the subterm at one of its places.
use Rattle.std.proofs.Common.{◌≡◌, ℕ, zero, suc, ◌+◌, ◌-◌, ◌<◌, ◌≤◌, List, [], ◌∷◌, ◌++◌, length, take, drop, slice_range, refl, sym, ap, ◌∙◌, arith, subst, get_or, length-append, length-drop}
use Rattle.std.proofs.lemmas.List.{drop-drop}
use Rattle.au_term.specs.Term.{Term}
use Rattle.au_term.specs.PrefixOrder.{cells_of, terms_of, term_of, IsForest, AreValidCells, IsTerm, subterm}
use Rattle.au_term.specs.SubtermSizes.{all_sizes, IsMeasured}
use Rattle.au_term.specs.declared.cell.Cell.{Cell}
use Rattle.au_term.proofs.WholeTermLemmas.{whole, forest_of, DueAfter-term}
use Rattle.au_term.proofs.SubtermLemmas.{forest_from, term_forest, first_splits, first_taken}
use Rattle.au_term.proofs.SubtermSizeLemmas.{length-all_sizes, size_at}

pub record IsStored (t : Term) (cells : List Cell) (sizes : List ℕ) : Type 0 where
  pub cells_are : cells ≡ cells_of t
  pub sizes_are : sizes ≡ all_sizes (terms_of (cells_of t))
  pub long : length sizes ≡ length (cells_of t)
  pub sound : AreValidCells (cells_of t)

pub stored : (t : Term) (cells : List Cell) (sizes : List ℕ) → IsMeasured cells sizes → term_of cells ≡ t → IsStored t cells sizes
stored t cells sizes m e =
    let is = whole cells m.term.leaves ∙ ap cells_of e in
    let sizes_are = m.measured ∙ ap (λ cs. all_sizes (terms_of cs)) is in
    record {
      cells_are = is;
      sizes_are = sizes_are;
      long = ap length sizes_are ∙ (length-all_sizes (terms_of (cells_of t)) ∙ ap length (term_forest t).cells);
      sound = subst AreValidCells is m.term.sound;
    }

pub whole_forest : (cs : List Cell) → IsTerm cs → IsForest cs
whole_forest cs h = record { cells = (forest_of 1 cs h.leaves).cells }

-- where the subterm at a place ends
pub record Ends (t : Term) (at stop : ℕ) : Type 0 where
  pub end : stop ≡ at + length (cells_of (subterm at t))
  pub rest : drop at (cells_of t) ≡ cells_of (subterm at t) ++ drop stop (cells_of t)
  pub within : stop ≤ length (cells_of t)

pub ends : (t : Term) (at stop : ℕ) → at < length (cells_of t) → stop ≡ at + length (cells_of (subterm at t)) → Ends t at stop
ends t at stop lt e =
    let some : 0 < length (drop at (cells_of t)) = omega (arith, length-drop at (cells_of t)) in
    let splits = first_splits (drop at (cells_of t)) (forest_from (cells_of t) at (term_forest t)) some in
    let long = length (cells_of (subterm at t)) in
    let same : drop long (drop at (cells_of t)) ≡ drop stop (cells_of t) = drop-drop long at (cells_of t) ∙ ap (λ n. drop n (cells_of t)) (sym e) in
    record {
      end = e;
      rest = splits ∙ ap (λ cs. cells_of (subterm at t) ++ cs) same;
      within = omega (arith, ap length splits, length-append (cells_of (subterm at t)) (drop long (drop at (cells_of t))), length-drop at (cells_of t));
    }

pub ends_by : (t : Term) (cells : List Cell) (sizes : List ℕ) (at size d : ℕ) → IsStored t cells sizes → at < length (cells_of t) → size ≡ get_or sizes at d → Ends t at (at + size)
ends_by t cells sizes at size d k lt is =
    ends t at (at + size) lt (ap (λ n. at + n) (is ∙ (ap (λ ss. get_or ss at d) k.sizes_are ∙ size_at (cells_of t) at d lt)))

pub taken : (t : Term) (at stop : ℕ) → at < length (cells_of t) → stop ≡ at + length (cells_of (subterm at t)) → slice_range (cells_of t) at stop ≡ cells_of (subterm at t)
taken t at stop lt e =
    let some : 0 < length (drop at (cells_of t)) = omega (arith, length-drop at (cells_of t)) in
    let long : stop - at ≡ length (cells_of (subterm at t)) = omega (arith, e) in
    ap (λ n. take n (drop at (cells_of t))) long ∙ first_taken (drop at (cells_of t)) (forest_from (cells_of t) at (term_forest t)) some

AreSound-drop : (cs : List Cell) (n : ℕ) → AreValidCells cs → AreValidCells (drop n cs)
AreSound-drop cs zero h = h
AreSound-drop [] (suc n) h = h
AreSound-drop (c ∷ cs) (suc n) h = AreSound-drop cs n h.1

AreSound-front : (cs ds : List Cell) → AreValidCells (cs ++ ds) → AreValidCells cs
AreSound-front [] ds h = tt
AreSound-front (c ∷ cs) ds h = (h.0, AreSound-front cs ds h.1)

pub subterm_whole : (t : Term) (at : ℕ) → AreValidCells (cells_of t) → at < length (cells_of t) → IsTerm (cells_of (subterm at t))
subterm_whole t at h lt =
    let e = ends t at (at + length (cells_of (subterm at t))) lt refl in
    record {
      leaves = DueAfter-term (subterm at t);
      sound = AreSound-front (cells_of (subterm at t)) _ (subst AreValidCells e.rest (AreSound-drop (cells_of t) at h));
    }
