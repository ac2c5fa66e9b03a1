-- Tasks put on top of others.
use Rattle.std.proofs.Common.{◌≡◌, ℕ, ◌+◌, ◌≤◌, List, [], ◌∷◌, ◌++◌, drop, refl, ap, ◌∙◌, arith}
use Rattle.au_term.specs.Term.{Term, VarTerm, IntTerm, AtomTerm, Compound, Terms, end, more, count}
use Rattle.au_term.specs.PrefixOrder.{cells_of, terms_of, top_of, subterm, terms_of-cells_of}
use Rattle.au_model.specs.Syntax.Operators.{Operator}
use Rattle.au_model.specs.Writing.Pieces.{Piece}
use Rattle.au_model.specs.Writing.OperatorForms.{Notation, form_of, form_of_term, is_above, is_enclosed, is_enclosed_left}
use Rattle.term_writer.specs.NotationView.{compound_form_of_cell, cell_above, cell_enclosed, cell_enclosed_left, counted_form}
use Rattle.term_writer.specs.WritingTasks.{terms_at, task_pieces, due_pieces, IsTaskPlaced, AreTasksPlaced, task_weight, due_weight, AddsTasks}
use Rattle.term_writer.specs.declared.tasks.Task.{Task}

pub due_push : (n : Notation) (t : Term) (xs : List Task) (x : Task) (rest : List Piece) → due_pieces n t (xs ++ x ∷ []) rest ≡ task_pieces n t x (due_pieces n t xs rest)
due_push n t [] x rest = refl
due_push n t (y ∷ xs) x rest = due_push n t xs x (task_pieces n t y rest)

pub weight_push : (t : Term) (xs : List Task) (x : Task) → due_weight t (xs ++ x ∷ []) ≡ task_weight t x + due_weight t xs
weight_push t [] x = refl
weight_push t (y ∷ xs) x = let e = weight_push t xs x in omega arith

pub placed_push : (t : Term) (xs : List Task) (x : Task) → IsTaskPlaced t x → AreTasksPlaced t xs → AreTasksPlaced t (xs ++ x ∷ [])
placed_push t [] x p ps = (p, tt)
placed_push t (y ∷ xs) x p ps = (ps.0, placed_push t xs x p ps.1)

pub placed_front : (t : Term) (xs : List Task) (x : Task) → AreTasksPlaced t (xs ++ x ∷ []) → AreTasksPlaced t xs
placed_front t [] x ps = tt
placed_front t (y ∷ xs) x ps = (ps.0, placed_front t xs x ps.1)

pub placed_last : (t : Term) (xs : List Task) (x : Task) → AreTasksPlaced t (xs ++ x ∷ []) → IsTaskPlaced t x
placed_last t [] x ps = ps.0
placed_last t (y ∷ xs) x ps = placed_last t xs x ps.1

-- one task on top
pub adds_one : (n : Notation) (t : Term) (old new : List Task) (x : Task) → new ≡ old ++ x ∷ [] → IsTaskPlaced t x → AddsTasks n t old new (task_pieces n t x) (task_weight t x)
adds_one n t old new x e p =
    let weight = weight_push t old x in
    record {
      pieces = rw e (due_push n t old x []);
      lighter = rw e (omega arith);
      placed = λ ps. rw e (placed_push t old x p ps);
    }

-- more tasks on top of those
pub adds_then : (n : Notation) (t : Term) (old mid new : List Task) (f g : List Piece → List Piece) (v w : ℕ) → AddsTasks n t old mid f v → AddsTasks n t mid new g w → AddsTasks n t old new (λ ps. g (f ps)) (w + v)
adds_then n t old mid new f g v w a b =
    record {
      pieces = b.pieces ∙ ap g a.pieces;
      lighter = omega (arith, a.lighter, b.lighter);
      placed = λ ps. b.placed (a.placed ps);
    }

pub adds_same : (n : Notation) (t : Term) (old new : List Task) (f g : List Piece → List Piece) (v w : ℕ) → AddsTasks n t old new f v → ((ps : List Piece) → f ps ≡ g ps) → v ≤ w → AddsTasks n t old new g w
adds_same n t old new f g v w a e h =
    record { pieces = a.pieces ∙ e (due_pieces n t old []); lighter = omega (arith, a.lighter); placed = a.placed }

-- the terms from a place on
pub terms_after : (t : Term) (at after : ℕ) → drop at (cells_of t) ≡ cells_of (subterm at t) ++ drop after (cells_of t) → terms_at t at ≡ more (subterm at t) (terms_at t after)
terms_after t at after e = ap terms_of e ∙ terms_of-cells_of (subterm at t) (drop after (cells_of t))

form_by_count : (n : Notation) (f : List ℕ) (ts : Terms) → counted_form n f (count ts) ≡ form_of n f ts
form_by_count n f end = refl
form_by_count n f (more t end) = refl
form_by_count n f (more t (more u end)) = refl
form_by_count n f (more t (more u (more v ts))) = refl

form_by_cell : (n : Notation) (t : Term) → compound_form_of_cell n (top_of t) ≡ form_of_term n t
form_by_cell n (VarTerm v) = refl
form_by_cell n (IntTerm z) = refl
form_by_cell n (AtomTerm a) = refl
form_by_cell n (Compound f ts) = form_by_count n f ts

pub above_by_cell : (n : Notation) (bound : ℕ) (t : Term) → cell_above n bound (top_of t) ≡ is_above n bound t
above_by_cell n bound t = rw (form_by_cell n t) refl

pub enclosed_by_cell : (n : Notation) (bound : ℕ) (t : Term) → cell_enclosed n bound (top_of t) ≡ is_enclosed n bound t
enclosed_by_cell n bound (VarTerm v) = refl
enclosed_by_cell n bound (IntTerm z) = refl
enclosed_by_cell n bound (AtomTerm a) = refl
enclosed_by_cell n bound (Compound f ts) = above_by_cell n bound (Compound f ts)

pub enclosed_left_by_cell : (n : Notation) (o : Operator) (t : Term) → cell_enclosed_left n o (top_of t) ≡ is_enclosed_left n o t
enclosed_left_by_cell n o (VarTerm v) = refl
enclosed_left_by_cell n o (IntTerm z) = refl
enclosed_left_by_cell n o (AtomTerm a) = refl
enclosed_left_by_cell n o (Compound f ts) = rw (form_by_count n f ts) refl
