-- A short list of shared clauses, as the list of the clauses.
use Rattle.std.specs.Prelude.{◌≡◌, ℕ, ◌+◌, List, length, Option, Some, None, option_map, is_some, true}
use Rattle.std.specs.List.{filter_map, list_all}
use Rattle.std.specs.Global.{Global}
use Rattle.std.specs.Arc.{arc_value}
use Rattle.std.specs.declared.sync.Arc.{Arc}
use Rattle.clause_compile.specs.declared.clause.Clause.{Clause}
use Rattle.run_model.specs.Programs.Clauses.{Clause as ClauseTerms}

abbrev pub slot_value : Option (Arc Clause Global) → Option ClauseTerms
slot_value = option_map arc_value

abbrev pub taken_clauses : List (Option (Arc Clause Global)) → List ClauseTerms
taken_clauses slots = filter_map slot_value slots

abbrev pub AreFull : List (Option (Arc Clause Global)) → Type 0
AreFull slots = list_all is_some slots ≡ true

-- a step was taken for each clause that is given
abbrev pub IsCounted : ℕ → ℕ → Option (List ClauseTerms) → Type 0
IsCounted old new None = new ≡ old
IsCounted old new (Some clauses) = new ≡ old + length clauses
