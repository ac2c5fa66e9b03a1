-- The sizes of subterms, and how terms are passed by them.
use Rattle.std.proofs.Common.{◌≡◌, ℕ, zero, suc, ◌+◌, ◌-◌, ◌<◌, ◌≤◌, List, [], ◌∷◌, ◌++◌, length, drop, refl, sym, ap, ◌∙◌, arith, length-append, length-drop, get_or, append_assoc}
use Rattle.std.proofs.lemmas.List.{get_or-drop}
use Rattle.au_term.specs.Term.{Term, VarTerm, IntTerm, AtomTerm, Compound, Terms, end, more, count, first_of, take_terms, drop_terms, term_at}
use Rattle.au_term.specs.PrefixOrder.{cells_of, all_cells, arity, with_cell, terms_of, term_of}
use Rattle.au_term.specs.SubtermSizes.{sizes_of, all_sizes, HasSizes}
use Rattle.au_term.specs.Arguments.{terms_of-cells}
use Rattle.au_term.specs.declared.cell.Cell.{Cell}
use Rattle.au_term.specs.declared.cell.Cell.TheVariants.{Var as VarCell, Int as IntCell, Atom as AtomCell, Functor}
use Rattle.au_term.proofs.WholeTermLemmas.{take_drop_cells}
use Rattle.au_term.proofs.SubtermLemmas.{some_cell, rest_cells, term_of_all}

mutual
  length-sizes_of : (t : Term) → length (sizes_of t) ≡ length (cells_of t)
  length-sizes_of (VarTerm n) = refl
  length-sizes_of (IntTerm n) = refl
  length-sizes_of (AtomTerm n) = refl
  length-sizes_of (Compound f ts) = ap suc (length-all_sizes ts)

  pub length-all_sizes : (ts : Terms) → length (all_sizes ts) ≡ length (all_cells ts)
  length-all_sizes end = refl
  length-all_sizes (more t ts) = omega (arith, length-append (sizes_of t) (all_sizes ts), length-append (cells_of t) (all_cells ts), length-sizes_of t, length-all_sizes ts)

take_drop_sizes : (n : ℕ) (ts : Terms) → all_sizes (take_terms n ts) ++ all_sizes (drop_terms n ts) ≡ all_sizes ts
take_drop_sizes zero ts = refl
take_drop_sizes (suc n) end = refl
take_drop_sizes (suc n) (more t ts) = append_assoc (sizes_of t) (all_sizes (take_terms n ts)) (all_sizes (drop_terms n ts)) ∙ ap (λ cs. sizes_of t ++ cs) (take_drop_sizes n ts)

-- the sizes, where a cell comes in front
pub sizes-with_cell : (c : Cell) (ts : Terms) → all_sizes (with_cell c ts) ≡ suc (length (all_cells (take_terms (arity c) ts))) ∷ all_sizes ts
sizes-with_cell (VarCell n) ts = refl
sizes-with_cell (IntCell n) ts = refl
sizes-with_cell (AtomCell n) ts = refl
sizes-with_cell (Functor f n) ts = ap (λ ss. suc (length (all_cells (take_terms n ts))) ∷ ss) (take_drop_sizes n ts)

first_length : (c : Cell) (ts : Terms) → length (cells_of (first_of (with_cell c ts))) ≡ suc (length (all_cells (take_terms (arity c) ts)))
first_length (VarCell n) ts = refl
first_length (IntCell n) ts = refl
first_length (AtomCell n) ts = refl
first_length (Functor f n) ts = refl

pub sizes_from : (cs : List Cell) (i : ℕ) → drop i (all_sizes (terms_of cs)) ≡ all_sizes (terms_of (drop i cs))
sizes_from cs zero = refl
sizes_from [] (suc i) = refl
sizes_from (c ∷ cs) (suc i) = ap (drop (suc i)) (sizes-with_cell c (terms_of cs)) ∙ sizes_from cs i

-- the size at a cell is the number of cells of the subterm that begins there
pub size_at : (cs : List Cell) (i d : ℕ) → i < length cs → get_or (all_sizes (terms_of cs)) i d ≡ length (cells_of (term_of (drop i cs)))
size_at [] i d lt = absurd (omega arith)
size_at (c ∷ cs) zero d lt = ap (λ ss. get_or ss 0 d) (sizes-with_cell c (terms_of cs)) ∙ sym (first_length c (terms_of cs))
size_at (c ∷ cs) (suc i) d lt = ap (λ ss. get_or ss (suc i) d) (sizes-with_cell c (terms_of cs)) ∙ size_at cs i d (omega arith)

one_more_taken : (p : ℕ) (ts : Terms) → p < count ts → length (all_cells (take_terms (suc p) ts)) ≡ length (all_cells (take_terms p ts)) + length (cells_of (term_at p ts))
one_more_taken p end lt = absurd (omega arith)
one_more_taken zero (more t ts) lt = omega (arith, length-append (cells_of t) [])
one_more_taken (suc p) (more t ts) lt =
    omega (arith, length-append (cells_of t) (all_cells (take_terms (suc p) ts)), length-append (cells_of t) (all_cells (take_terms p ts)), one_more_taken p ts (omega arith))

few_cells : (n : ℕ) (ts : Terms) → length (all_cells (take_terms n ts)) ≤ length (all_cells ts)
few_cells n ts = omega (arith, ap length (take_drop_cells n ts), length-append (all_cells (take_terms n ts)) (all_cells (drop_terms n ts)))

-- the size after the first terms is that of the next one
next_size : (p d : ℕ) (ts : Terms) → p < count ts → get_or (all_sizes ts) (length (all_cells (take_terms p ts))) d ≡ length (cells_of (term_at p ts))
next_size p d ts lt =
    let k = length (all_cells (take_terms p ts)) in
    let below : k < length (all_cells ts) = omega (arith, few_cells (suc p) ts, one_more_taken p ts lt, some_cell (term_at p ts)) in
    ap (λ us. get_or (all_sizes us) k d) (sym (terms_of-cells ts)) ∙ (size_at (all_cells ts) k d below ∙ (ap (λ cs. length (cells_of (term_of cs))) (rest_cells p ts) ∙ ap (λ t. length (cells_of t)) (term_of_all (drop_terms p ts))))

-- one more term is passed
pub record Passes (sizes : List ℕ) (start passed at size : ℕ) (ts : Terms) : Type 0 where
  pub below : at < length sizes
  pub next : at + size ≡ start + length (all_cells (take_terms (passed + 1) ts))
  pub within : at + size ≤ length sizes

pub passes : (sizes : List ℕ) (start number passed at size : ℕ) (ts : Terms) → HasSizes sizes start number ts → passed < number
    → at ≡ start + length (all_cells (take_terms passed ts)) → size ≡ get_or sizes at 0 → Passes sizes start passed at size ts
passes sizes start number passed at size ts h lt e is =
    let few : passed < count ts = omega (arith, h.enough) in
    let k = length (all_cells (take_terms passed ts)) in
    let item : size ≡ length (cells_of (term_at passed ts)) = is ∙ (ap (λ i. get_or sizes i 0) e ∙ (sym (get_or-drop start sizes k 0) ∙ (ap (λ ss. get_or ss k 0) h.from ∙ next_size passed 0 ts few))) in
    let more_cells = one_more_taken passed ts few in
    let long : length sizes - start ≡ length (all_cells ts) = sym (length-drop start sizes) ∙ (ap length h.from ∙ length-all_sizes ts) in
    let one : suc passed ≡ passed + 1 = omega arith in
    let all = few_cells (suc passed) ts in
    record {
      below = omega (arith, some_cell (term_at passed ts));
      next = rw (← one) (omega arith);
      within = omega (arith, some_cell (term_at passed ts));
    }
