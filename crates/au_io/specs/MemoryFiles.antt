-- Files and failures in memory.
use Rattle.std.specs.Prelude.{◌==◌, ◌||◌, ℕ, Bool, not, cond, List, [], ◌∷◌, Option, Some, None, is_some, nat_eq, String, Vec, string_bytes}
use Rattle.std.specs.Global.{Global}
use Rattle.std.specs.List.{list_any}
use Rattle.std.specs.Cmp.Lexicographic.{pointwise}
use Rattle.au_io.specs.declared.memory.MemoryShelf.{MemoryShelf}

-- the bytes of the first file of this name
abbrev pub file_of : List ℕ → List (String Global × Vec ℕ Global) → Option (List ℕ)
file_of name [] = None
file_of name (file ∷ files) = cond (pointwise nat_eq (string_bytes file.0) name) (Some file.1.items) (file_of name files)

-- the shelf's next call fails: its number is a failing one, or the name is not there
abbrev pub is_fault : MemoryShelf → List ℕ → Bool
is_fault s name = list_any (λ n. n == s.calls) s.failing.items || not (is_some (file_of name s.files.items))
