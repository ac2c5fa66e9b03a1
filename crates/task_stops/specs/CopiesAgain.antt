-- Copies of a copy.
use Rattle.std.specs.Prelude.{◌≡◌, ℕ}
use Rattle.au_term.specs.Term.{Term}
use Rattle.au_model.specs.Terms.Copies.{copied, copy_takes}

-- a copy with its variables numbered from 0 has the copies of the term itself
pub record IsCopiedAlike (t : Term) : Type 0 where
  pub copies : (next : ℕ) → copied (copied t 0) next ≡ copied t next
  pub takes : copy_takes (copied t 0) ≡ copy_takes t

abbrev pub CopiesAreAlike : Type 0
CopiesAreAlike = (t : Term) → IsCopiedAlike t
