-- The arguments that follow one another.
use Rattle.std.proofs.Common.{◌≡◌, ℕ, zero, suc, ◌+◌, ◌-◌, ◌<◌, ◌≤◌, List, [], ◌∷◌, length, drop, refl, sym, ap, ◌∙◌, arith, append-nil, length-drop}
use Rattle.std.proofs.lemmas.List.{drop-drop}
use Rattle.au_term.specs.Term.{Term, VarTerm, IntTerm, AtomTerm, Compound, Terms, end, more, count, first_of, take_terms, drop_terms, arguments}
use Rattle.au_term.specs.PrefixOrder.{cells_of, all_cells, top_of, arity, terms_of, term_of, IsForest, subterm}
use Rattle.au_term.specs.Arguments.{terms_of-cells}
use Rattle.au_term.specs.declared.cell.Cell.{Cell}
use Rattle.au_term.proofs.WholeTermLemmas.{count-drop}
use Rattle.au_term.proofs.SubtermLemmas.{forest_from, term_forest, rest_cells}

take_every : (ts : Terms) → take_terms (count ts) ts ≡ ts
take_every end = refl
take_every (more t ts) = ap (more t) (take_every ts)

-- after the first cell are a term's arguments, and no others
pub all_follow : (t : Term) → take_terms (arity (top_of t)) (terms_of (drop 1 (cells_of t))) ≡ arguments t
all_follow (VarTerm n) = refl
all_follow (IntTerm n) = refl
all_follow (AtomTerm n) = refl
all_follow (Compound f ts) = ap (take_terms (count ts)) (terms_of-cells ts) ∙ take_every ts

pub enough_follow : (t : Term) → arity (top_of t) ≤ count (terms_of (drop 1 (cells_of t)))
enough_follow (VarTerm n) = omega arith
enough_follow (IntTerm n) = omega arith
enough_follow (AtomTerm n) = omega arith
enough_follow (Compound f ts) = omega (arith, ap count (terms_of-cells ts))

none_counted : (cs : List Cell) → length cs ≡ 0 → count (terms_of cs) ≡ 0
none_counted [] e = refl
none_counted (c ∷ cs) e = absurd (omega arith)

-- one argument of those that are left, and the others
pub record Follows (t : Term) (at left : ℕ) : Type 0 where
  pub within : at < length (cells_of t)
  pub first : take_terms left (terms_of (drop at (cells_of t))) ≡ more (subterm at t) (take_terms (left - 1) (terms_of (drop (at + length (cells_of (subterm at t))) (cells_of t))))
  pub enough : left - 1 ≤ count (terms_of (drop (at + length (cells_of (subterm at t))) (cells_of t)))

one_of : (left : ℕ) (ts : Terms) → 0 < left → 0 < count ts → take_terms left ts ≡ more (first_of ts) (take_terms (left - 1) (drop_terms 1 ts))
one_of zero ts lt some = absurd (omega arith)
one_of (suc left) end lt some = absurd (omega arith)
one_of (suc left) (more t ts) lt some = let e : left ≡ suc left - 1 = omega arith in ap (λ n. more t (take_terms n ts)) e

first_long : (ts : Terms) → 0 < count ts → length (all_cells (take_terms 1 ts)) ≡ length (cells_of (first_of ts))
first_long end lt = absurd (omega arith)
first_long (more t ts) lt = ap length (append-nil (cells_of t))

-- the terms after the first one
rest_terms : (cs : List Cell) → IsForest cs → 0 < count (terms_of cs) → terms_of (drop (length (cells_of (term_of cs))) cs) ≡ drop_terms 1 (terms_of cs)
rest_terms cs f some =
    let ts = terms_of cs in
    let n = length (cells_of (first_of ts)) in
    let cut : drop n cs ≡ all_cells (drop_terms 1 ts) =
    ap (drop n) (sym f.cells) ∙ (ap (λ k. drop k (all_cells ts)) (sym (first_long ts some)) ∙ rest_cells 1 ts) in
    ap terms_of cut ∙ terms_of-cells (drop_terms 1 ts)

pub follows : (t : Term) (at left : ℕ) → 0 < left → left ≤ count (terms_of (drop at (cells_of t))) → Follows t at left
follows t at left lt enough =
    let cs = drop at (cells_of t) in
    let f = forest_from (cells_of t) at (term_forest t) in
    let some : 0 < count (terms_of cs) = omega arith in
    let n = length (cells_of (subterm at t)) in
    let behind : terms_of (drop (at + n) (cells_of t)) ≡ drop_terms 1 (terms_of cs) = ap terms_of (sym (drop-drop n at (cells_of t))) ∙ rest_terms cs f some in
    record {
      within = first_of_cases (length cs) refl;
      first = one_of left (terms_of cs) lt some ∙ ap (λ ts. more (subterm at t) (take_terms (left - 1) ts)) (sym behind);
      enough = omega (arith, ap count behind, count-drop 1 (terms_of cs));
    }
  where
    first_of_cases : (n : ℕ) → length (drop at (cells_of t)) ≡ n → at < length (cells_of t)
    first_of_cases zero e = absurd (omega (arith, none_counted (drop at (cells_of t)) e))
    first_of_cases (suc n) e = omega (arith, length-drop at (cells_of t), e)

-- a term's first cell tells how many arguments it has
pub arity-top_of : (t : Term) → arity (top_of t) ≡ count (arguments t)
arity-top_of (VarTerm n) = refl
arity-top_of (IntTerm n) = refl
arity-top_of (AtomTerm n) = refl
arity-top_of (Compound f ts) = refl
