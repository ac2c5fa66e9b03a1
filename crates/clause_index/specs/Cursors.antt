-- What a cursor has left.
use Rattle.std.specs.Prelude.{◌≡◌, ◌<◌, ℕ, Bool, true, false, List, [], ◌∷◌, length, drop, Option, Some, None, IfSome}
use Rattle.proc_index.specs.Places.{merged}
use Rattle.clause_index.specs.Classes.{is_of, procedure_class, key_class}
use Rattle.clause_index.specs.Numbers.{head_numbers_from}
use Rattle.clause_index.specs.declared.key.HeadKey.{HeadKey}
use Rattle.clause_index.specs.declared.key.Class.{Class}
use Rattle.clause_index.specs.declared.cursor.Cursor.{Cursor}
use Rattle.clause_index.specs.declared.cursor.Cursor.TheVariants.{All, ByKey}

-- the numbers of the heads in the first one's class
abbrev pub chain_in : (HeadKey → Class) → ℕ → List HeadKey → List ℕ
chain_in class i [] = []
chain_in class i (h ∷ hs) = head_numbers_from i (is_of (class h)) (h ∷ hs)

-- from a head on, the numbers of those in its class
abbrev pub chain : (HeadKey → Class) → List HeadKey → Option ℕ → List ℕ
chain class heads None = []
chain class heads (Some i) = chain_in class i (drop i heads)

-- the numbers that are left, in rising order
abbrev pub numbers_left : List HeadKey → Cursor → List ℕ
numbers_left heads (All o) = chain procedure_class heads o
numbers_left heads (ByKey o p) = merged (chain key_class heads o) (chain key_class heads p)

-- a cursor with no number left, of whatever heads
abbrev pub is_used_up : Cursor → Bool
is_used_up (All None) = true
is_used_up (ByKey None None) = true
is_used_up _ = false

abbrev pub IsNumberBelow : ℕ → Option ℕ → Type 0
IsNumberBelow n o = IfSome o (λ i. i < n)

-- its numbers are those of heads that are there
abbrev pub IsCursorOf : List HeadKey → Cursor → Type 0
IsCursorOf heads (All o) = IsNumberBelow (length heads) o
IsCursorOf heads (ByKey o p) = IsNumberBelow (length heads) o × IsNumberBelow (length heads) p

-- the least number was taken
pub record TakesLeast (heads : List HeadKey) (old new : Cursor) (number : ℕ) : Type 0 where
  pub taken : numbers_left heads old ≡ number ∷ numbers_left heads new
  pub there : number < length heads
  pub cursor : IsCursorOf heads new
