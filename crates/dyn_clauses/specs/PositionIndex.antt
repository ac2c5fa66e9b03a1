-- The positions of a procedure's clauses, by the key of their heads' first arguments.
use Rattle.std.specs.Prelude.{ℕ, ◌+◌, ◌-◌, nat_lt, if◌then◌else◌, Bool, false, not, ◌&&◌, ◌==◌, List, [], ◌∷◌, ◌++◌, map, filter, Option, Some, None}
use Rattle.std.specs.Ordering.{nat_cmp}
use Rattle.std.specs.BTreeMap.{BTreeMap, get, is_at}
use Rattle.std.specs.BTreeSet.{BTreeSet, contains}
use Rattle.std.specs.Map.{lookup}
use Rattle.std.specs.List.{list_any}
use Rattle.run_model.specs.Programs.Clauses.{Clause as ClauseTerms}
use Rattle.run_model.specs.Programs.Databases.{NumberedClause}
use Rattle.proc_index.specs.declared.key.Key.{Key}
use Rattle.proc_index.specs.Keys.{may_match}
use Rattle.proc_index.specs.ProcedureIndex.{key_cmp}

abbrev pub Index : Type 0
Index = BTreeMap Key (BTreeSet ℕ)

abbrev pub is_in : Option (BTreeSet ℕ) → ℕ → Bool
is_in None q = false
is_in (Some positions) q = contains nat_cmp positions q

-- whether a position is noted under a key
abbrev pub is_noted : Index → Key → ℕ → Bool
is_noted index key q = is_in (get key_cmp index key) q

-- whether a key and a position are these
abbrev pub is_place : Key → ℕ → Key → ℕ → Bool
is_place key position k q = is_at (key_cmp key) k && is_at (nat_cmp position) q

-- clauses by their positions
abbrev pub Placed : Type 0
Placed = List (ℕ × ClauseTerms)

-- the positions of clauses that are put in front go down from the middle, the others go up
abbrev pub middle : ℕ
middle = 9223372036854775808

abbrev pub first_position : ℕ → ℕ
first_position n = middle - 1 - n

abbrev pub last_position : ℕ → ℕ
last_position n = middle + n

-- the number of the clause at a position
abbrev pub position_number : ℕ → ℕ
position_number q = if nat_lt q middle then first_position q else q - middle

abbrev pub numbered_entry : ℕ × ClauseTerms → NumberedClause
numbered_entry e = record { number = position_number e.0; clause = e.1 }

abbrev pub numbered_clauses : Placed → List NumberedClause
numbered_clauses es = map numbered_entry es

-- the clauses whose heads' first arguments are variables or have the key
abbrev pub matching_clauses : Key → Placed → Placed
matching_clauses key es = filter (λ e. may_match key e.1.head) es

abbrev pub entry_at : ℕ → Option ClauseTerms → Placed
entry_at q None = []
entry_at q (Some c) = (q, c) ∷ []

-- the clauses at positions, where there are any
abbrev pub picked : List ℕ → Placed → Placed
picked [] es = []
picked (q ∷ qs) es = entry_at q (lookup (is_at (nat_cmp q)) es) ++ picked qs es

abbrev pub without_position : ℕ → Placed → Placed
without_position q es = filter (λ e. not (is_at (nat_cmp q) e.0)) es

-- whether a procedure has a clause with this number
abbrev pub has_numbered : Placed → ℕ → Bool
has_numbered ps n = list_any (λ d. position_number d.0 == n) ps
