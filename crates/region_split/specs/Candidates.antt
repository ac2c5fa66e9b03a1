-- Clauses that a goal may match, by their numbers. The others have no entry, so they need not be tried.
use Rattle.std.specs.Prelude.{◌≡◌, ◌<◌, ℕ, Bool, false, not, List, [], ◌∷◌, length, Option, Some, None, slice_get}
use Rattle.au_term.specs.Term.{Term, argument_count}
use Rattle.au_model.specs.Terms.Forms.{name_of}
use Rattle.au_model.specs.Terms.Unifier.{unifier}
use Rattle.run_model.specs.Programs.Clauses.{Clause, renamed_head, is_defined}
use Rattle.run_model.specs.Goals.Outcomes.{alternatives_of}
use Rattle.run_model.specs.Machine.Items.{Continuation}
use Rattle.run_model.specs.Machine.Entries.{Entry, solution_entries}
use Rattle.proc_index.specs.Places.{clauses_at}
use Rattle.clause_index.specs.Classes.{same_number_key}
use Rattle.clause_index.specs.Cursors.{IsCursorOf, numbers_left}
use Rattle.clause_index.specs.declared.cursor.Cursor.{Cursor}
use Rattle.clause_index.specs.declared.key.NumberKey.{NumberKey}
use Rattle.region_split.specs.Texts.{TextView}

-- the entries of clauses with these numbers where they are tried for a goal, over so many entries, before what follows
abbrev pub entries_of_clauses : TextView → Term → ℕ → ℕ → Continuation ℕ → List ℕ → List Entry
entries_of_clauses text goal next height f numbers = solution_entries height f (alternatives_of (clauses_at text.clauses numbers) goal next)

-- those that a cursor has left stand for all clauses of the text, and are none where the goal's procedure has no clause
pub record AreCandidates (text : TextView) (goal : Term) (next : ℕ) (left : Cursor) : Type 0 where
  pub cursor : IsCursorOf text.heads left
  pub entries : (height : ℕ) (f : Continuation ℕ) → entries_of_clauses text goal next height f (numbers_left text.heads left) ≡ solution_entries height f (alternatives_of text.clauses goal next)
  pub undefined : is_defined text.clauses (name_of goal) (argument_count goal) ≡ false → numbers_left text.heads left ≡ []

-- a clause stands for all clauses of the text
pub record IsOnlyCandidate (text : TextView) (goal : Term) (next : ℕ) (clause : ℕ) : Type 0 where
  pub there : clause < length text.clauses
  pub entries : (height : ℕ) (f : Continuation ℕ) → entries_of_clauses text goal next height f (clause ∷ []) ≡ solution_entries height f (alternatives_of text.clauses goal next)
  pub defined : is_defined text.clauses (name_of goal) (argument_count goal) ≡ false → ⊥

-- none that is left has an entry
abbrev pub HaveNoEntry : TextView → Term → ℕ → Cursor → Type 0
HaveNoEntry text goal next left = (height : ℕ) (f : Continuation ℕ) → entries_of_clauses text goal next height f (numbers_left text.heads left) ≡ []

-- a clause was taken off those that were left, and those before it have no entry
pub record FindsClause (text : TextView) (goal : Term) (next : ℕ) (old new : Cursor) (clause : ℕ) : Type 0 where
  pub there : clause < length text.clauses
  pub cursor : IsCursorOf text.heads new
  pub entries : (height : ℕ) (f : Continuation ℕ) → entries_of_clauses text goal next height f (numbers_left text.heads old) ≡ entries_of_clauses text goal next height f (clause ∷ numbers_left text.heads new)
  pub fewer : length (numbers_left text.heads new) < length (numbers_left text.heads old)

-- two keys that are there, and are not the same
abbrev pub numbers_differ : Option NumberKey → Option NumberKey → Bool
numbers_differ None l = false
numbers_differ (Some k) None = false
numbers_differ (Some k) (Some l) = not (same_number_key k l)

-- a clause that a goal unifies with nowhere
abbrev pub AreToldApart : TextView → Term → ℕ → Type 0
AreToldApart text goal clause = (next : ℕ) (c : Clause) → slice_get text.clauses clause ≡ Some c → unifier ((goal, renamed_head c next) ∷ []) ≡ None
