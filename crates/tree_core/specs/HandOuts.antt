-- What is handed out of a job's tree.
use Rattle.std.specs.Prelude.{◌≡◌, ◌≢◌, true, [], Option, Some, None}
use Rattle.std.specs.Option.{option_map}
use Rattle.tree_model.specs.Events.{Event}
use Rattle.tree_model.specs.HandOuts.{Handed, Never, handed_after}
use Rattle.tree_model.specs.Levels.{Place, Spot, place_of_spot}
use Rattle.tree_model.specs.Promises.{tasks_out}
use Rattle.tree_model.specs.TreeStates.{TreeState}
use Rattle.public_tree.specs.PublicTrees.{offered, is_going}
use Rattle.tree_core.specs.Histories.{History, with_event}

-- where it is, as long as the tree goes on
abbrev pub offered_at : (TreeState → Option Spot) → TreeState → Option Place
offered_at offer t = option_map place_of_spot (offered t (offer t))

-- with the event by which it went out, if anything did
abbrev pub handing_out : (Place → Event) → Option Place → History → History
handing_out event None h = h
handing_out event (Some a) h = with_event (event a) h

-- as what an alternative had been handed out before
abbrev pub WasHanded : Handed → Option Place → History → Type 0
WasHanded before None h = Unit {0}
WasHanded before (Some a) h = handed_after a h.events Never ≡ Some before

-- where the tree goes on, nobody has a task and none of one kind is offered, there is one of the other kind
abbrev pub LeavesOther : (TreeState → Option Spot) → Option Place → TreeState → Type 0
LeavesOther other None t = is_going t ≡ true → tasks_out t ≡ [] → other t ≢ None
LeavesOther other (Some a) t = Unit {0}
