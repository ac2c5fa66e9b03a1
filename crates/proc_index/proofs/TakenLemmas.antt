-- Lists of full slots, and the clauses in them.
use Rattle.std.proofs.Common.{◌≡◌, ◌∙◌, ℕ, ◌<◌, suc, zero, length, List, [], ◌∷◌, ◌++◌, Option, Some, None, true, refl, ap, ap₂, arith, slice_index_or}
use Rattle.std.specs.Prelude.{is_some, slice_get}
use Rattle.std.specs.Global.{Global}
use Rattle.std.specs.Arc.{arc_value}
use Rattle.std.specs.declared.sync.Arc.{Arc}
use Rattle.std.proofs.lemmas.Bool.{false≢true}
use Rattle.std.proofs.lemmas.List.Elements.{filter_map-append}
use Rattle.clause_compile.specs.declared.clause.Clause.{Clause}
use Rattle.run_model.specs.Programs.Clauses.{Clause as ClauseTerms}
use Rattle.proc_index.specs.TakenClauses.{AreFull, taken_clauses, slot_value}

pub length-clauses_in : (slots : List (Option (Arc Clause Global))) → AreFull slots → length (taken_clauses slots) ≡ length slots
length-clauses_in [] h = refl
length-clauses_in (None ∷ slots) h = absurd (false≢true h)
length-clauses_in (Some s ∷ slots) h = ap suc (length-clauses_in slots h)

pub slice_get-clauses_in : (slots : List (Option (Arc Clause Global))) (i : ℕ) (d : Option (Arc Clause Global)) → AreFull slots → i < length slots → slice_get (taken_clauses slots) i ≡ slot_value (slice_index_or slots i d)
slice_get-clauses_in [] i d h lt = absurd (omega arith)
slice_get-clauses_in (None ∷ slots) i d h lt = absurd (false≢true h)
slice_get-clauses_in (Some s ∷ slots) zero d h lt = refl
slice_get-clauses_in (Some s ∷ slots) (suc i) d h lt = slice_get-clauses_in slots i d h (omega arith)

-- a slot of a list of full ones is full
pub full_at : (slots : List (Option (Arc Clause Global))) (i : ℕ) (d : Option (Arc Clause Global)) → AreFull slots → i < length slots → is_some (slice_index_or slots i d) ≡ true
full_at [] i d h lt = absurd (omega arith)
full_at (None ∷ slots) i d h lt = absurd (false≢true h)
full_at (Some s ∷ slots) zero d h lt = refl
full_at (Some s ∷ slots) (suc i) d h lt = full_at slots i d h (omega arith)

pub clauses_in-push : (slots : List (Option (Arc Clause Global))) (xs : List ClauseTerms) (s : Arc Clause Global) (v : ClauseTerms) → taken_clauses slots ≡ xs → arc_value s ≡ v → taken_clauses (slots ++ Some s ∷ []) ≡ xs ++ v ∷ []
clauses_in-push slots xs s v e f = filter_map-append slot_value slots (Some s ∷ []) ∙ ap₂ (λ ys y. ys ++ y ∷ []) e f
