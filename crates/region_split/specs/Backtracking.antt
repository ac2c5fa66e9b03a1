-- What goes on where a branch has ended (ISO/IEC 13211-1, 7.7.6 and 7.7.8).
use Rattle.std.specs.Prelude.{◌≡◌, ◌<◌, List, [], ◌∷◌, length, Option, Some, None}
use Rattle.au_model.specs.Terms.Named.{NamedTerm}
use Rattle.run_model.specs.Machine.Items.{with_next}
use Rattle.run_model.specs.Machine.Entries.{Entry, PlainEntry, CatchEntry, FindallEntry, EndEntry}
use Rattle.run_model.specs.Machine.FreeSteps.{take_free_steps}
use Rattle.cell_store.specs.StoreView.{IsValueIn, meaning}
use Rattle.region_split.specs.ChoicePoints.{all_takes_left}
use Rattle.region_split.specs.ResultLists.{AreResultsFrom}
use Rattle.region_split.specs.Regions.{RegionView, entries_of, continuation_here, position_entry, IsPositionIn}
use Rattle.region_split.specs.declared.choice.Resumed.{Resumed}
use Rattle.region_split.specs.declared.choice.Resumed.TheVariants.{At, FindallDone, QueryDone, AllDone}

-- entries without the catches on top, whose goals have no solution left
abbrev pub without_catches : List Entry → List Entry
without_catches [] = []
without_catches (CatchEntry c r f ∷ es) = without_catches es
without_catches (PlainEntry f ∷ es) = PlainEntry f ∷ es
without_catches (FindallEntry results l f ∷ es) = FindallEntry results l f ∷ es
without_catches (EndEntry b ∷ es) = EndEntry b ∷ es

-- the entry that goes on, over what the choice points stand for
abbrev pub resumed_entries : List NamedTerm → RegionView → Resumed → List Entry
resumed_entries named r (At p) = position_entry named r p ∷ entries_of named r
resumed_entries named r (FindallDone list results after) = FindallEntry results.terms (meaning r.store list) (with_next results.next (continuation_here named r after)) ∷ entries_of named r
resumed_entries named r QueryDone = EndEntry None ∷ entries_of named r
resumed_entries named r AllDone = []

-- positions and values are there
abbrev pub IsResumed : RegionView → Resumed → Type 0
IsResumed r (At p) = IsPositionIn r p
IsResumed r (FindallDone list results after) = IsPositionIn r after × IsValueIn r.store list × AreResultsFrom r.store.now.next results
IsResumed r QueryDone = Unit {0}
IsResumed r AllDone = length r.choices ≡ 0

-- the entries went on with the first one that is no catch
pub record Resumes (old new : RegionView) (next : Resumed) : Type 0 where
  pub entries : (named : List NamedTerm) → without_catches (entries_of named old) ≡ resumed_entries named new next
  pub there : IsResumed new next

-- free steps of the sequential machine lead from the one to the other
abbrev pub TakesFreeSteps : RegionView → RegionView → Resumed → Type 0
TakesFreeSteps old new next = (named : List NamedTerm) → take_free_steps (entries_of named old) ≡ take_free_steps (resumed_entries named new next)

-- what the newest choice point has next was taken: it goes on, or it stood for no entry that does
abbrev pub TakesNext : RegionView → RegionView → Option Resumed → Type 0
TakesNext old new None = (all_takes_left new.text.heads new.choices < all_takes_left old.text.heads old.choices) × ((named : List NamedTerm) → without_catches (entries_of named old) ≡ without_catches (entries_of named new))
TakesNext old new (Some next) = Resumes old new next
