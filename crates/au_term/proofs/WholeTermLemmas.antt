-- Cells that leave nothing due are the cells of a term.
use Rattle.std.proofs.Common.{zero-add, get_or, length, take, ◌≡◌, ℕ, zero, suc, ◌+◌, ◌-◌, ◌<◌, ◌≤◌, List, [], ◌∷◌, ◌++◌, refl, sym, ap, ◌∙◌, append_assoc, append-nil, arith}
use Rattle.au_term.specs.Term.{Term, VarTerm, IntTerm, AtomTerm, Compound, Terms, end, more, count, first_of, take_terms, drop_terms}
use Rattle.au_term.specs.PrefixOrder.{top_of, cells_of, all_cells, arity, with_cell, terms_of, term_of, DueAfter, AreDue, due_after, IsValidCell, AreValidCells, IsTermPrefix}
use Rattle.au_term.specs.declared.cell.Cell.{Cell}
use Rattle.au_term.specs.declared.cell.Cell.TheVariants.{Var as VarCell, Int as IntCell, Atom as AtomCell, Functor}

pub take_drop_cells : (n : ℕ) (ts : Terms) → all_cells (take_terms n ts) ++ all_cells (drop_terms n ts) ≡ all_cells ts
take_drop_cells zero ts = refl
take_drop_cells (suc n) end = refl
take_drop_cells (suc n) (more t ts) = append_assoc (cells_of t) (all_cells (take_terms n ts)) (all_cells (drop_terms n ts)) ∙ ap (λ cs. cells_of t ++ cs) (take_drop_cells n ts)

pub count-take : (n : ℕ) (ts : Terms) → n ≤ count ts → count (take_terms n ts) ≡ n
count-take zero ts h = refl
count-take (suc n) end h = absurd (omega arith)
count-take (suc n) (more t ts) h = ap suc (count-take n ts (omega arith))

pub count-drop : (n : ℕ) (ts : Terms) → count (drop_terms n ts) ≡ count ts - n
count-drop zero ts = omega arith
count-drop (suc n) end = omega arith
count-drop (suc n) (more t ts) = omega (arith, count-drop n ts)

-- the cells stand for as many terms as were due, and are the cells of these
pub record IsForest (due : ℕ) (cs : List Cell) : Type 0 where
  pub number : count (terms_of cs) ≡ due
  pub cells : all_cells (terms_of cs) ≡ cs

with_one : (due : ℕ) (c : Cell) (cs : List Cell) → 0 < due → arity c ≡ 0 → count (with_cell c (terms_of cs)) ≡ suc (count (terms_of cs)) → all_cells (with_cell c (terms_of cs)) ≡ c ∷ all_cells (terms_of cs) → IsForest (due - 1 + arity c) cs → IsForest due (c ∷ cs)
with_one due c cs lt e n a h = record { number = omega (arith, h.number); cells = a ∙ ap (λ ds. c ∷ ds) h.cells }

pub forest_of : (due : ℕ) (cs : List Cell) → DueAfter due cs 0 → IsForest due cs
forest_of due [] h = record { number = sym h; cells = refl }
forest_of due (VarCell n ∷ cs) h = with_one due (VarCell n) cs h.0 refl refl refl (forest_of (due - 1 + 0) cs h.1)
forest_of due (IntCell n ∷ cs) h = with_one due (IntCell n) cs h.0 refl refl refl (forest_of (due - 1 + 0) cs h.1)
forest_of due (AtomCell n ∷ cs) h = with_one due (AtomCell n) cs h.0 refl refl refl (forest_of (due - 1 + 0) cs h.1)
forest_of due (Functor f n ∷ cs) h =
    let k = forest_of (due - 1 + n) cs h.1 in
    let few : n ≤ count (terms_of cs) = omega (arith, k.number) in
    record {
      number = omega (arith, k.number, count-drop n (terms_of cs));
      cells = rw (count-take n (terms_of cs) few, take_drop_cells n (terms_of cs)) (ap (λ ds. Functor f n ∷ ds) k.cells);
    }

-- a term's cells are those that it is kept as
pub whole : (cs : List Cell) → DueAfter 1 cs 0 → cs ≡ cells_of (term_of cs)
whole cs h = sym (forest_of 1 cs h).cells ∙ one (terms_of cs) (forest_of 1 cs h).number
  where
    one : (ts : Terms) → count ts ≡ 1 → all_cells ts ≡ cells_of (first_of ts)
    one end e = absurd (omega arith)
    one (more t end) e = append-nil (cells_of t)
    one (more t (more u ts)) e = absurd (omega arith)

pub due_after-is : (due : ℕ) (cs : List Cell) (left : ℕ) → DueAfter due cs left → due_after due cs ≡ left
due_after-is due [] left h = h
due_after-is due (c ∷ cs) left h = due_after-is (due - 1 + arity c) cs left h.1

pub DueAfter-push : (due : ℕ) (cs : List Cell) (left : ℕ) (c : Cell) → DueAfter due cs left → 0 < left → DueAfter due (cs ++ c ∷ []) (left - 1 + arity c)
DueAfter-push due [] left c h lt = (rw h lt, ap (λ n. n - 1 + arity c) h)
DueAfter-push due (d ∷ cs) left c h lt = (h.0, DueAfter-push (due - 1 + arity d) cs left c h.1 lt)

pub AreSound-push : (cs : List Cell) (c : Cell) → AreValidCells cs → IsValidCell c → AreValidCells (cs ++ c ∷ [])
AreSound-push [] c h k = (k, tt)
AreSound-push (d ∷ cs) c h k = (h.0, AreSound-push cs c h.1 k)

pub IsStarted-push : (cs : List Cell) (left next : ℕ) (c : Cell) → IsTermPrefix cs left → 0 < left → IsValidCell c → next ≡ left - 1 + arity c → IsTermPrefix (cs ++ c ∷ []) next
IsStarted-push cs left next c h lt k e = record {
  leaves = rw e (DueAfter-push 1 cs left c h.leaves lt);
  sound = AreSound-push cs c h.sound k;
}

-- where the cells of a term go on, something was due
pub DueAfter-due : (due left : ℕ) (xs ys : List Cell) (c : Cell) → DueAfter due (xs ++ c ∷ ys) left → 0 < due_after due xs
DueAfter-due due left [] ys c h = h.0
DueAfter-due due left (x ∷ xs) ys c h = DueAfter-due (due - 1 + arity x) left xs ys c h.1

pub AreSound-middle : (xs ys : List Cell) (c : Cell) → AreValidCells (xs ++ c ∷ ys) → IsValidCell c
AreSound-middle [] ys c h = h.0
AreSound-middle (x ∷ xs) ys c h = AreSound-middle xs ys c h.1

mutual
  pub DueAfter-cells_of : (t : Term) (cs : List Cell) (due left : ℕ) → DueAfter due cs left → DueAfter (suc due) (cells_of t ++ cs) left
  DueAfter-cells_of (VarTerm n) cs due left h = (omega arith, (let e : suc due - 1 + 0 ≡ due = omega arith in rw e h))
  DueAfter-cells_of (IntTerm n) cs due left h = (omega arith, (let e : suc due - 1 + 0 ≡ due = omega arith in rw e h))
  DueAfter-cells_of (AtomTerm n) cs due left h = (omega arith, (let e : suc due - 1 + 0 ≡ due = omega arith in rw e h))
  DueAfter-cells_of (Compound f ts) cs due left h = (omega arith, (let e : suc due - 1 + count ts ≡ count ts + due = omega arith in rw e (DueAfter-all_cells ts cs due left h)))

  pub DueAfter-all_cells : (ts : Terms) (cs : List Cell) (due left : ℕ) → DueAfter due cs left → DueAfter (count ts + due) (all_cells ts ++ cs) left
  DueAfter-all_cells end cs due left h = rw zero-add h
  DueAfter-all_cells (more t ts) cs due left h = let e : suc (count ts) + due ≡ suc (count ts + due) = omega arith in rw (e, append_assoc) (DueAfter-cells_of t (all_cells ts ++ cs) (count ts + due) left (DueAfter-all_cells ts cs due left h))

pub DueAfter-term : (t : Term) → DueAfter 1 (cells_of t) 0
DueAfter-term t = rw (← append-nil (cells_of t)) (DueAfter-cells_of t [] 0 0 refl)

pub first_cell : (t : Term) (d : Cell) → get_or (cells_of t) 0 d ≡ top_of t
first_cell (VarTerm n) d = refl
first_cell (IntTerm n) d = refl
first_cell (AtomTerm n) d = refl
first_cell (Compound f ts) d = refl

pub due_after-append : (due : ℕ) (xs ys : List Cell) → due_after due (xs ++ ys) ≡ due_after (due_after due xs) ys
due_after-append due [] ys = refl
due_after-append due (x ∷ xs) ys = due_after-append (due - 1 + arity x) xs ys

pub AreDue-at : (due : ℕ) (cs : List Cell) (i : ℕ) → AreDue due cs → i < length cs → 0 < due_after due (take i cs)
AreDue-at due [] i h lt = absurd (omega arith)
AreDue-at due (c ∷ cs) zero h lt = h.0
AreDue-at due (c ∷ cs) (suc i) h lt = AreDue-at (due - 1 + arity c) cs i h.1 (omega arith)

-- the cells of as many terms as are due, or fewer, come where they are due
pub DueAfter-AreDue : (due : ℕ) (cs : List Cell) (left : ℕ) → DueAfter due cs left → AreDue due cs
DueAfter-AreDue due [] left h = tt
DueAfter-AreDue due (c ∷ cs) left h = (h.0, DueAfter-AreDue (due - 1 + arity c) cs left h.1)

pub cells_are_due : (t : Term) (due : ℕ) → 0 < due → AreDue due (cells_of t)
cells_are_due t zero lt = absurd (omega arith)
cells_are_due t (suc due) lt = DueAfter-AreDue (suc due) (cells_of t) due (rw (← append-nil (cells_of t)) (DueAfter-cells_of t [] due due refl))
