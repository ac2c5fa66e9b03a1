-- What is still to be written, and the pieces that it stands for.
use Rattle.std.specs.Prelude.{◌≡◌, ℕ, ◌+◌, ◌<◌, ◌≤◌, List, [], ◌∷◌, length, drop}
use Rattle.au_term.specs.Term.{Term, VarTerm, IntTerm, AtomTerm, Compound, Terms, end, more, count, take_terms}
use Rattle.au_term.specs.PrefixOrder.{cells_of, terms_of, subterm}
use Rattle.au_model.specs.Writing.Pieces.{Piece, Put}
use Rattle.au_model.specs.Writing.OperatorForms.{Notation}
use Rattle.au_model.specs.Writing.WrittenTerms.{name_pieces, prefix_pieces, infix_pieces, postfix_pieces, pieces, tail_pieces, further_pieces}
use Rattle.op_table.specs.OperatorView.{operator_meant}
use Rattle.term_writer.specs.TextInProgress.{mark_meant, followed_by}
use Rattle.term_writer.specs.declared.text.Text.{Text}
use Rattle.term_writer.specs.declared.tasks.Task.{Task}
use Rattle.term_writer.specs.declared.tasks.Task.TheVariants.{Term as TermTask, Further, Tail, Mark, Name, Prefix, Infix, Postfix}

-- the terms that begin at a place, one after another
abbrev pub terms_at : Term → ℕ → Terms
terms_at t at = terms_of (drop at (cells_of t))

-- the pieces of a task, in front of what follows
abbrev pub task_pieces : Notation → Term → Task → List Piece → List Piece
task_pieces n t (TermTask at) rest = pieces n (subterm at t) rest
task_pieces n t (Further at left) rest = further_pieces n (take_terms left (terms_at t at)) rest
task_pieces n t (Tail at) rest = tail_pieces n (subterm at t) rest
task_pieces n t (Mark m) rest = Put (mark_meant m) ∷ rest
task_pieces n t (Name a) rest = name_pieces a.now rest
task_pieces n t (Prefix a) rest = prefix_pieces a.now rest
task_pieces n t (Infix a o) rest = infix_pieces (operator_meant o) a.now rest
task_pieces n t (Postfix a) rest = postfix_pieces a.now rest

-- the pieces of all tasks, the last task first
abbrev pub due_pieces : Notation → Term → List Task → List Piece → List Piece
due_pieces n t [] rest = rest
due_pieces n t (x ∷ xs) rest = due_pieces n t xs (task_pieces n t x rest)

-- a task's places are places of the term
abbrev pub IsTaskPlaced : Term → Task → Type 0
IsTaskPlaced t (TermTask at) = at < length (cells_of t)
IsTaskPlaced t (Further at left) = left ≤ count (terms_at t at)
IsTaskPlaced t (Tail at) = at < length (cells_of t)
IsTaskPlaced t _ = Unit {0}

abbrev pub AreTasksPlaced : Term → List Task → Type 0
AreTasksPlaced t [] = Unit {0}
AreTasksPlaced t (x ∷ xs) = IsTaskPlaced t x × AreTasksPlaced t xs

-- a number that falls with each task that is done
abbrev mutual
  pub term_weight : Term → ℕ
  term_weight (VarTerm n) = 1
  term_weight (IntTerm z) = 1
  term_weight (AtomTerm a) = 1
  term_weight (Compound f ts) = 10 + terms_weight ts

  pub terms_weight : Terms → ℕ
  terms_weight end = 0
  terms_weight (more t ts) = 5 + term_weight t + terms_weight ts

abbrev pub task_weight : Term → Task → ℕ
task_weight t (TermTask at) = term_weight (subterm at t)
task_weight t (Further at left) = 2 + terms_weight (take_terms left (terms_at t at))
task_weight t (Tail at) = 6 + term_weight (subterm at t)
task_weight t _ = 1

abbrev pub due_weight : Term → List Task → ℕ
due_weight t [] = 0
due_weight t (x ∷ xs) = task_weight t x + due_weight t xs

-- tasks of at most this weight, which stand for these pieces, were put on top of others
pub record AddsTasks (n : Notation) (t : Term) (old new : List Task) (f : List Piece → List Piece) (weight : ℕ) : Type 0 where
  pub pieces : due_pieces n t new [] ≡ f (due_pieces n t old [])
  pub lighter : due_weight t new ≤ weight + due_weight t old
  pub placed : AreTasksPlaced t old → AreTasksPlaced t new

-- a task was done, in part by lighter ones
pub record DoesTask (n : Notation) (t : Term) (task : Task) (old new : List Task) (before after : Text) : Type 0 where
  pub pieces : followed_by after (due_pieces n t new []) ≡ followed_by before (task_pieces n t task (due_pieces n t old []))
  pub lighter : due_weight t new < task_weight t task + due_weight t old
  pub placed : AreTasksPlaced t old → AreTasksPlaced t new
