-- What every legal tree keeps.
use Rattle.std.specs.Prelude.{◌≡◌, ◌<◌, ◌≤◌, ℕ, true, List}
use Rattle.run_model.specs.Programs.Jobs.{Job}
use Rattle.tree_model.specs.Credits.{greatest}
use Rattle.run_model.specs.Machine.Entries.{Entry}
use Rattle.tree_model.specs.Nodes.{Hold, Pending}
use Rattle.tree_model.specs.Levels.{Level, plug}
use Rattle.tree_model.specs.PendingLists.{pending_list}
use Rattle.tree_model.specs.Events.{Event}
use Rattle.tree_model.specs.TreeStates.{TreeState}
use Rattle.tree_model.specs.Legality.{is_legal}
use Rattle.tree_model.specs.Effects.{after_event}
use Rattle.tree_model.specs.Histories.{tree_after, IsLegalHistory}
use Rattle.tree_model.specs.SoundTrees.{IsOpen, profile, IsSoundTree}
use Rattle.tree_model.specs.CaughtTrees.{IsCaughtTree}
use Rattle.tree_model.specs.GivenAnswers.{answers_in, AreInOrder}
use Rattle.tree_model.specs.NumberedTrees.{IsNumberedTree}

-- numbers, shapes and scopes; catch marks, results, ends of queries and what was spent; the order of answers; variables
pub record IsLegalTree (t : TreeState) : Type 0 where
  pub sound : IsSoundTree t
  pub caught : IsCaughtTree t
  pub ordered : AreInOrder t.root
  pub numbered : IsNumberedTree t

-- of every budget
abbrev pub HistoriesAreSound : Type 0
HistoriesAreSound = (job : Job) (budget window : ℕ) (es : List Event) → IsLegalHistory job budget window es
    → IsSoundTree (tree_after job budget window es)

-- as long as its answers can be counted
abbrev pub EventsKeepTrees : Type 0
EventsKeepTrees =
    (t : TreeState) (e : Event) → IsLegalTree t → answers_in t.root < greatest → is_legal t e ≡ true → IsLegalTree (after_event t e)

abbrev pub HistoriesKeepTrees : Type 0
HistoriesKeepTrees =
    (job : Job) (budget window : ℕ) (es : List Event) → budget ≤ greatest → IsLegalHistory job budget window es
    → IsLegalTree (tree_after job budget window es)

-- who has an open entry is not seen in the list
abbrev pub HoldIsUnseen : List Level → Hold → Hold → Entry → Type 0
HoldIsUnseen levels h k e =
    profile (Pending h e) ≡ IsOpen → profile (Pending k e) ≡ IsOpen
    → pending_list (plug levels (Pending h e)) ≡ pending_list (plug levels (Pending k e))
