-- What callers see of a task's region, and the entries for which it stands.
use Rattle.std.specs.Prelude.{ℕ, List, ◌∷◌, ◌++◌, map, Option}
use Rattle.au_model.specs.Terms.Named.{NamedTerm}
use Rattle.run_model.specs.Machine.Items.{Item}
use Rattle.run_model.specs.Machine.Entries.{Entry}
use Rattle.region_split.specs.Regions.{RegionView, entries_of, position_entry}
use Rattle.region_split.specs.ClauseTrials.{entries_at}
use Rattle.region_split.specs.declared.frame.FrameItem.{FrameItem}
use Rattle.region_split.specs.declared.frame.Position.{Position}
use Rattle.region_control.specs.Ahead.{goal_entry, removal_entry}
use Rattle.region_control.specs.declared.control.GoalPlace.{GoalPlace}
use Rattle.region_floor.specs.Deferred.{carried_term}
use Rattle.task_region.specs.DeferredItems.{item_of}
use Rattle.task_region.specs.declared.start.TaskStart.{TaskStart}

-- a region, how many nodes are on its branch, how many variables there were when it was handed out, the items that its alternative had
-- then, and where it goes on
pub record TaskView : Type 0 where
  pub region : RegionView
  pub floor : ℕ
  pub variables : ℕ
  pub deferred : List (Item ℕ)
  pub next : Option Position

-- as it is kept
abbrev pub view_of_task : RegionView → TaskStart → Option Position → TaskView
view_of_task r s next = record { region = r; floor = s.floor; variables = s.variables; deferred = map item_of s.deferred.items; next = next }

-- the named terms of its query with the terms that are deferred
abbrev pub carried : List NamedTerm → List (Item ℕ) → List NamedTerm
carried named items = named ++ map carried_term items

-- the entries for which a region stands that goes on at a position
abbrev pub position_stack : List NamedTerm → List (Item ℕ) → RegionView → Position → List Entry
position_stack named items r p = position_entry (carried named items) r p ∷ entries_of (carried named items) r

-- where what is deferred from a number on comes next, before what follows at a position
abbrev pub deferred_stack : List NamedTerm → List (Item ℕ) → RegionView → ℕ → Position → List Entry
deferred_stack named items r number after = removal_entry (carried named items) r number after ∷ entries_of (carried named items) r

-- where a goal comes next
abbrev pub goal_stack : List NamedTerm → List (Item ℕ) → RegionView → FrameItem → GoalPlace → List Entry
goal_stack named items r item g = goal_entry (carried named items) r item g ∷ entries_of (carried named items) r

-- and those for which a task stands
abbrev pub task_stack : List NamedTerm → TaskView → List Entry
task_stack named t = entries_at (carried named t.deferred) t.region t.next ++ entries_of (carried named t.deferred) t.region
