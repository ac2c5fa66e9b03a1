-- Terms whose places come on top of those that wait, cell by cell from the last.
use Rattle.std.proofs.Common.{◌≡◌, ℕ, suc, ◌+◌, ◌^◌, ◌<◌, ◌≤◌, List, [], ◌∷◌, ◌++◌, length, drop, get_or, refl, sym, ap, ◌∙◌, arith, append-nil}
use Rattle.std.specs.Prelude.{codes}
use Rattle.std.proofs.Math.ListN.{get_or-append}
use Rattle.std.proofs.Math.Seq.{drop-append_seam, drop-cons}
use Rattle.std.proofs.lemmas.List.{length-append}
use Rattle.au_term.specs.Term.{Term, Terms, more, end, count}
use Rattle.au_term.specs.PrefixOrder.{all_cells, arity, cell_bound, cells_of, terms_of, with_cell, IsValidCell}
use Rattle.au_term.specs.Shifted.{shifted_cell}
use Rattle.au_term.specs.declared.cell.Cell.{Cell}
use Rattle.au_term.specs.declared.cell.Cell.TheVariants.{Functor, Var as VarCell, Int as IntCell, Atom as AtomCell}
use Rattle.au_term.proofs.SubtermLemmas.{all_forest}
use Rattle.au_term.specs.Arguments.{terms_of-cells}
use Rattle.au_model.specs.Terms.Forms.{binary, list_term}
use Rattle.clause_compile.specs.Places.{CodeView, Keeps, ArePlacesOf, AddsCell, IsPlaced, meanings}
use Rattle.clause_compile.specs.declared.place.Place.{Place}
use Rattle.clause_compile.proofs.CodeLemmas.{keeps_same, keeps_twice, enough_there, how_many, placed}
use Rattle.cell_store.specs.ListGoals.{AddsTerm, list_goal}

-- the cells of a term, and of those that wait
abbrev pub cells_before : Term → Terms → List Cell
cells_before t ts = cells_of t ++ all_cells ts

-- so many of the first cells are still to be added
pub record AddsFrom (first now : CodeView) (t : Term) (before stack : List Place) (left : ℕ) : Type 0 where
  pub within : left ≤ length (cells_of t)
  pub keeps : Keeps first now
  pub stand : ArePlacesOf now stack
  pub means : meanings now stack ≡ terms_of (drop left (cells_before t (meanings first before)))

pub none_added : (first : CodeView) (t : Term) (before : List Place) (left : ℕ) → left ≡ length (cells_of t) → ArePlacesOf first before → AddsFrom first first t before before left
none_added first t before left e stand = record {
  within = omega (arith, e);
  keeps = keeps_same first;
  stand = stand;
  means =
      let ts = meanings first before in
      sym (terms_of-cells ts) ∙ ap terms_of (sym (drop-append_seam (cells_of t) (all_cells ts)) ∙ ap (λ n. drop n (cells_before t ts)) (sym e));
}

module _ (first now : CodeView) (t : Term) (before stack : List Place) (left i : ℕ) (a : AddsFrom first now t before stack left) (one : left ≡ suc i) (c : Cell) (is : c ≡ get_or (cells_of t) i c) where
  abbrev ts : Terms
  ts = meanings first before

  within : i < length (cells_of t)
  within = let w = a.within in omega (arith, w, one)

  opens : drop i (cells_before t ts) ≡ c ∷ drop (suc i) (cells_before t ts)
  opens =
      let there : i < length (cells_before t ts) = omega (arith, within, length-append (cells_of t) (all_cells ts)) in
      drop-cons (cells_before t ts) i c there ∙ ap (λ d. d ∷ drop (suc i) (cells_before t ts)) (get_or-append (cells_of t) (all_cells ts) c i within ∙ sym is)

  means : meanings now stack ≡ terms_of (drop (suc i) (cells_before t ts))
  means = a.means ∙ ap (λ n. terms_of (drop n (cells_before t ts))) one

  pub cell_enough : arity c ≤ length stack
  cell_enough = enough_there c (cells_before t ts) i now stack (all_forest (more t ts)) opens means

  pub one_added : (new : CodeView) (after : List Place) → AddsCell now new c stack after → AddsFrom first new t before after i
  one_added new after h = record {
    within = omega (arith, within);
    keeps = keeps_twice first now new a.keeps h.keeps;
    stand = h.stand;
    means = h.means ∙ (ap (with_cell c) means ∙ ap terms_of (sym opens));
  }

pub all_added : (first now : CodeView) (t : Term) (before stack : List Place) (left : ℕ) → AddsFrom first now t before stack left → left ≡ 0 → AddsTerm first now t before stack
all_added first now t before stack left a none = record {
  keeps = a.keeps;
  stand = a.stand;
  means = a.means ∙ (ap (λ n. terms_of (drop n (cells_before t (meanings first before)))) none ∙ terms_of-cells (more t (meanings first before)));
}

-- two terms on top become the arguments of a compound
pub two_there : (first m n : CodeView) (a b : Term) (before stack now : List Place) → AddsTerm first m b before stack → AddsTerm m n a stack now → 2 ≤ length now
two_there first m n a b before stack now h k =
    omega (arith, how_many n now, ap count k.means, ap count h.means)

pub compound_of_two : (first m n new : CodeView) (f : List ℕ) (a b : Term) (before stack now after : List Place) → AddsTerm first m b before stack → AddsTerm m n a stack now → AddsCell n new (Functor f 2) now after
    → AddsTerm first new (binary f a b) before after
compound_of_two first m n new f a b before stack now after h k c = record {
  keeps = keeps_twice first n new (keeps_twice first m n h.keeps k.keeps) c.keeps;
  stand = c.stand;
  means = c.means ∙ ap (with_cell (Functor f 2)) (k.means ∙ ap (more a) h.means);
}

-- one item more in front of a list
pub list_from : (items : List Term) (i : ℕ) (t : Term) → i < length items → t ≡ get_or items i t → binary (codes ".") t (list_term (drop (suc i) items)) ≡ list_term (drop i items)
list_from items i t lt e = ap list_term (ap (λ u. u ∷ drop (suc i) items) e ∙ sym (drop-cons items i t lt))

pub goal_placed : (old new : CodeView) (t : Term) (items : List Term) (stack left : List Place) (p : Place) → AddsTerm old new (list_goal t items) [] stack → stack ≡ left ++ p ∷ [] → IsPlaced old new (list_goal t items) p
goal_placed old new t items stack left p h is = placed old new (list_goal t items) stack left p h.keeps h.stand (h.means ∙ sym (ap terms_of (sym (append-nil (cells_of (list_goal t items)))) ∙ terms_of-cells (more (list_goal t items) end))) is

-- nothing is added to variables
pub unshifted : (c : Cell) → shifted_cell 0 c ≡ c
unshifted (VarCell n) = let e : 0 + n ≡ n = omega arith in ap VarCell e
unshifted (IntCell z) = refl
unshifted (AtomCell a) = refl
unshifted (Functor f n) = refl

pub valid_fits : (c : Cell) → IsValidCell c → 0 + cell_bound c < 2 ^ 64
valid_fits (VarCell n) h = omega (arith, h)
valid_fits (IntCell z) h = omega arith
valid_fits (AtomCell a) h = omega arith
valid_fits (Functor f n) h = omega arith
