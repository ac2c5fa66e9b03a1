-- Control constructs in a region (ISO/IEC 13211-1, 7.8, 8.10.1 and 8.15).
use Rattle.std.specs.Prelude.{◌≡◌, ◌≤◌, List, ◌∷◌, length}
use Rattle.au_model.specs.Terms.Named.{NamedTerm}
use Rattle.run_model.specs.Goals.Outcomes.{ControlForm}
use Rattle.run_model.specs.Machine.Heights.{after_control}
use Rattle.region_split.specs.ChoicePoints.{height_of_cut}
use Rattle.region_split.specs.Regions.{RegionView, entries_of, heights_of, continuation_here, position_entry, IsPositionIn, IsPositionOver}
use Rattle.region_split.specs.declared.frame.Position.{Position}
use Rattle.region_control.specs.declared.control.GoalPlace.{GoalPlace}

-- a goal may stand there: it cuts to choice points that are there, and what follows it cuts to no others
pub record IsGoalPlace (r : RegionView) (g : GoalPlace) : Type 0 where
  pub scope : g.cut ≤ length r.choices
  pub after : IsPositionOver r g.cut g.after

-- a control construct took the place of its goal: what goes on at a position, over what the choice points stand for, is what
-- comes after it
pub record Controls (old new : RegionView) (form : ControlForm) (g : GoalPlace) (p : Position) : Type 0 where
  pub entries : (named : List NamedTerm) → position_entry named new p ∷ entries_of named new ≡ after_control form (height_of_cut (heights_of named old) g.cut) (continuation_here named old g.after) (entries_of named old)
  pub position : IsPositionIn new p
  pub text : new.text ≡ old.text
  pub floor : new.store.floor ≡ old.store.floor
