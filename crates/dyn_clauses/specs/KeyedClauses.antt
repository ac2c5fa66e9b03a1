-- The clauses of a procedure as they are kept.
use Rattle.std.specs.Prelude.{◌≡◌, ℕ, Bool, false, Option, Some, None, map}
use Rattle.std.specs.Global.{Global}
use Rattle.std.specs.Arc.{arc_value}
use Rattle.std.specs.declared.sync.Arc.{Arc}
use Rattle.std.specs.Ordering.{nat_cmp}
use Rattle.std.specs.List.{AllByRecursion}
use Rattle.std.specs.BTreeMap.{BTreeMap, get, IsOrdered, is_at}
use Rattle.clause_compile.specs.declared.clause.Clause.{Clause}
use Rattle.run_model.specs.Programs.Clauses.{Clause as ClauseTerms}
use Rattle.run_model.specs.Programs.Databases.{NumberedClause}
use Rattle.proc_index.specs.declared.key.Key.{Key}
use Rattle.proc_index.specs.Keys.{head_key}
use Rattle.proc_index.specs.ProcedureIndex.{key_cmp}
use Rattle.dyn_clauses.specs.PositionIndex.{Index, Placed, is_noted, numbered_entry}
use Rattle.dyn_clauses.specs.declared.procedure.KeyedClause.{KeyedClause}

-- whether the clause at a position has this key
abbrev pub is_keyed : Option KeyedClause → Key → Bool
is_keyed None k = false
is_keyed (Some kept) k = is_at (key_cmp kept.key) k

abbrev pub clause_of_keyed : KeyedClause → ClauseTerms
clause_of_keyed kept = arc_value kept.clause

abbrev pub placed_entry : ℕ × KeyedClause → ℕ × ClauseTerms
placed_entry e = (e.0, clause_of_keyed e.1)

abbrev pub placed_clause : BTreeMap ℕ KeyedClause → Placed
placed_clause m = map placed_entry m.entries

abbrev pub numbered_keyed : ℕ → KeyedClause → NumberedClause
numbered_keyed q kept = numbered_entry (q, clause_of_keyed kept)

-- each clause has its own key, and is noted under it
pub record IsProcedure (clauses : BTreeMap ℕ KeyedClause) (index : Index) : Type 0 where
  pub ordered : IsOrdered nat_cmp clauses
  pub keyed : AllByRecursion (λ e. e.1.key ≡ head_key (clause_of_keyed e.1).head) clauses.entries
  pub indexed : (k : Key) (q : ℕ) → is_noted index k q ≡ is_keyed (get nat_cmp clauses q) k
