-- Clauses that are tried for goals (ISO/IEC 13211-1, 7.7.10).
use Rattle.std.specs.Prelude.{◌≡◌, ℕ, false, List, [], ◌∷◌, ◌++◌, length, Option, Some, None, slice_get}
use Rattle.au_term.specs.Term.{argument_count}
use Rattle.au_model.specs.Terms.Forms.{name_of}
use Rattle.au_model.specs.Terms.Named.{NamedTerm}
use Rattle.run_model.specs.Programs.Clauses.{Clause, is_defined}
use Rattle.run_model.specs.Goals.Outcomes.{Solutions, alternatives_of}
use Rattle.run_model.specs.Machine.Entries.{Entry}
use Rattle.run_model.specs.Machine.Heights.{after_reply}
use Rattle.binding_array.specs.declared.cell.BindingCell.{BindingCell}
use Rattle.cell_store.specs.StoreView.{meaning, text_in}
use Rattle.region_split.specs.Regions.{RegionView, standing, entries_of, continuation_here, position_entry, IsPositionOver}
use Rattle.region_split.specs.StackOperations.{trial_entries}
use Rattle.region_split.specs.declared.choice.Trial.{Trial}
use Rattle.region_split.specs.declared.frame.Position.{Position}

-- what goes on at a position, if there is one
abbrev pub entries_at : List NamedTerm → RegionView → Option Position → List Entry
entries_at named r None = []
entries_at named r (Some p) = position_entry named r p ∷ []

abbrev pub IsOptionalPosition : RegionView → ℕ → Option Position → Type 0
IsOptionalPosition r cut None = Unit {0}
IsOptionalPosition r cut (Some p) = IsPositionOver r cut p

-- a clause was tried, in whose body a cut leaves so many choice points: where its head unifies, what goes on is its entry,
-- and where it doesn't, there is none
pub record TriesClause (old new : RegionView) (t : Trial) (cut : ℕ) (reached : Option Position) : Type 0 where
  pub clause : Clause
  pub is : slice_get old.text.clauses t.clause ≡ Some clause
  pub entries : (named : List NamedTerm) → trial_entries named old t cut clause ≡ entries_at named new reached
  pub position : IsOptionalPosition new cut reached
  pub frames : reached ≡ None → new.frames ≡ old.frames

-- the choice points are there, and stand for what they stood for
pub record KeepsChoices (old new : RegionView) : Type 0 where
  pub stands : (named : List NamedTerm) → standing named new ≡ standing named old
  pub others : new ≡ record old { store = record old.store { now = new.store.now }; frames = new.frames }

-- what takes the place of a goal for which all clauses of the text are tried, before what follows at a position
abbrev pub called_entries : List NamedTerm → RegionView → BindingCell → Position → List Entry
called_entries named r goal after =
    after_reply (Solutions (alternatives_of r.text.clauses (meaning r.store goal) r.store.now.next)) (continuation_here named r after) (entries_of named r)

-- a goal was called: what goes on, over what the choice points stand for, is what takes its place; names have the numbers that
-- they had, and nothing has changed where its procedure has no clause in the text
pub record Calls (old new : RegionView) (goal : BindingCell) (after : Position) (reached : Option Position) : Type 0 where
  pub entries : (named : List NamedTerm) → called_entries named old goal after ≡ entries_at named new reached ++ entries_of named new
  pub position : IsOptionalPosition new (length new.choices) reached
  pub text : new.text ≡ old.text
  pub floor : new.store.floor ≡ old.store.floor
  pub names : (text_in new.store).names ≡ (text_in old.store).names
  pub undefined : is_defined old.text.clauses (name_of (meaning old.store goal)) (argument_count (meaning old.store goal)) ≡ false → (reached ≡ None) × (new ≡ old)
