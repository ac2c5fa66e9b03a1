-- A job that one worker drives on its tree.
use Rattle.std.specs.Prelude.{◌≡◌, true, false, []}
use Rattle.std.specs.List.{list_any}
use Rattle.tree_model.specs.Events.{Event}
use Rattle.tree_model.specs.Levels.{Place}
use Rattle.public_tree.specs.PublicTrees.{is_going}
use Rattle.tree_core.specs.Histories.{History, state_of, with_event}
use Rattle.tree_core.specs.TasksOut.{out_after}
use Rattle.hand_out_laws.specs.HandedBack.{hands_out, is_stop}

-- nobody has stopped it, and as long as it goes on all that was handed out has come back
pub record IsDriven (h : History) : Type 0 where
  pub unstopped : list_any is_stop h.events ≡ false
  pub back : is_going (state_of h) ≡ true → out_after h.events [] ≡ []

-- an alternative goes out by one event
pub record GoesOut (old new : History) (a : Place) : Type 0 where
  pub out : Event
  pub noted : new ≡ with_event out old
  pub goes : hands_out a out ≡ true
