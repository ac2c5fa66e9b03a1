-- Whether nothing but catches is left of a task over its floor: a catch stays a choice point when its goal has ended.
use Rattle.std.specs.Prelude.{◌≡◌, ◌⊎◌, ◌≤◌, ◌<◌, ℕ, ◌+◌, List, length}
use Rattle.au_model.specs.Terms.Each.{Each}
use Rattle.region_split.specs.ChoicePoints.{IsCatching, IsCatchAt}
use Rattle.region_split.specs.QueryEnds.{IsEnd}
use Rattle.region_split.specs.declared.choice.ChoicePoint.{ChoicePoint}
use Rattle.task_region.specs.TaskViews.{TaskView}

-- the end of a query, as those that are the floor, or a catch
abbrev pub IsEndOrCatch : ChoicePoint → Type 0
IsEndOrCatch c = IsEnd c.alternatives ⊎ IsCatching c.alternatives

-- catches are all that is over so many choice points
abbrev pub AreCatchesFrom : List ChoicePoint → ℕ → Type 0
AreCatchesFrom choices from = (over : ℕ) → from ≤ over → over < length choices → IsCatchAt choices over

-- there is one that is none
pub record IsOtherFrom (choices : List ChoicePoint) (from over : ℕ) : Type 0 where
  pub above : from ≤ over
  pub within : over < length choices
  pub other : IsCatchAt choices over → ⊥

-- over the floor of a task there are so many catches, and nothing else
pub record HasCatchesAlone (t : TaskView) (count : ℕ) : Type 0 where
  pub alone : Each IsEndOrCatch t.region.choices
  pub many : length t.region.choices ≡ t.floor + count
  pub marks : length t.region.store.marks ≡ length t.region.choices

-- or something else is
abbrev pub HasOtherChoice : TaskView → Type 0
HasOtherChoice t = (over : ℕ) × IsOtherFrom t.region.choices t.floor over
