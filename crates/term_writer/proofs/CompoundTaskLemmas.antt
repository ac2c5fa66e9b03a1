-- The arguments of a compound, by the places of its cells.
use Rattle.std.proofs.Common.{◌≡◌, ℕ, zero, suc, ◌+◌, ◌-◌, ◌<◌, ◌≤◌, List, ◌++◌, length, drop, refl, sym, ap, ◌∙◌, subst, arith, length-append, length-drop}
use Rattle.std.proofs.lemmas.List.{drop-drop}
use Rattle.au_term.specs.Term.{Term, VarTerm, IntTerm, AtomTerm, Compound, Terms, end, more, count, arguments, take_terms, term_at}
use Rattle.au_term.specs.PrefixOrder.{cells_of, all_cells, terms_of, append_terms, terms_of-all_cells, subterm}
use Rattle.au_term.specs.declared.cell.Cell.{Cell}
use Rattle.au_term.proofs.SubtermLemmas.{first_splits, forest_from, term_forest, some_cells}
use Rattle.term_writer.specs.WritingTasks.{terms_at}

taken_all : (ts us : Terms) → take_terms (count ts) (append_terms ts us) ≡ ts
taken_all end us = refl
taken_all (more t ts) us = ap (more t) (taken_all ts us)

count_appended : (ts us : Terms) → count ts ≤ count (append_terms ts us)
count_appended end us = omega arith
count_appended (more t ts) us = omega (arith, count_appended ts us)

-- after the first cell of a compound are its arguments
record Inside (ts : Terms) (cs : List Cell) : Type 0 where
  pub taken : take_terms (count ts) (terms_of cs) ≡ ts
  pub enough : count ts ≤ count (terms_of cs)
  pub some : 0 < length cs

inside_all : (ts : Terms) (rest : List Cell) → 0 < count ts → Inside ts (all_cells ts ++ rest)
inside_all ts rest lt =
    let e = terms_of-all_cells ts rest in
    record {
      taken = rw e (taken_all ts (terms_of rest));
      enough = rw e (count_appended ts (terms_of rest));
      some = omega (arith, length-append (all_cells ts) rest, some_cells ts lt);
    }

inside_term : (u : Term) (rest : List Cell) → 0 < count (arguments u) → Inside (arguments u) (drop 1 (cells_of u ++ rest))
inside_term (VarTerm n) rest lt = absurd (omega arith)
inside_term (IntTerm z) rest lt = absurd (omega arith)
inside_term (AtomTerm a) rest lt = absurd (omega arith)
inside_term (Compound f ts) rest lt = inside_all ts rest lt

-- the place after the first cell of a compound
pub record Firsts (t u : Term) (first : ℕ) : Type 0 where
  pub place : first < length (cells_of t)
  pub taken : take_terms (count (arguments u)) (terms_at t first) ≡ arguments u
  pub enough : count (arguments u) ≤ count (terms_at t first)

pub firsts : (t : Term) (at : ℕ) → at < length (cells_of t) → 0 < count (arguments (subterm at t)) → Firsts t (subterm at t) (at + 1)
firsts t at lt some =
    let cells = cells_of t in
    let u = subterm at t in
    let long : 0 < length (drop at cells) = omega (arith, length-drop at cells) in
    let split = first_splits (drop at cells) (forest_from cells at (term_forest t)) long in
    let here : drop 1 (cells_of u ++ drop (length (cells_of u)) (drop at cells)) ≡ drop (at + 1) cells = ap (drop 1) (sym split) ∙ drop-drop 1 at cells in
    let i = subst (Inside (arguments u)) here (inside_term u (drop (length (cells_of u)) (drop at cells)) some) in
    record { place = omega (arith, i.some, length-drop (at + 1) cells); taken = i.taken; enough = i.enough }

pub one_argument : (ts : Terms) (l : Term) → count ts ≡ 1 → l ≡ term_at 0 ts → ts ≡ more l end
one_argument end l e h = absurd (omega arith)
one_argument (more t end) l e h = ap (λ x. more x end) (sym h)
one_argument (more t (more u ts)) l e h = absurd (omega arith)

pub two_arguments : (ts : Terms) (l r : Term) → count ts ≡ 2 → l ≡ term_at 0 ts → r ≡ term_at 1 ts → ts ≡ more l (more r end)
two_arguments end l r e h k = absurd (omega arith)
two_arguments (more t end) l r e h k = absurd (omega arith)
two_arguments (more t (more u end)) l r e h k = rw (h, k) refl
two_arguments (more t (more u (more v ts))) l r e h k = absurd (omega arith)

-- one term less from a place on
pub taken_more : (n : ℕ) (us vs : Terms) (t : Term) → us ≡ more t vs → 0 < n → take_terms n us ≡ more t (take_terms (n - 1) vs)
taken_more zero us vs t e lt = absurd (omega arith)
taken_more (suc n) us vs t e lt = let k : suc n - 1 ≡ n = omega arith in rw (e, k) refl

pub enough_after : (n : ℕ) (us vs : Terms) (t : Term) → us ≡ more t vs → n ≤ count us → n - 1 ≤ count vs
enough_after n us vs t e le = omega (arith, ap count e)
