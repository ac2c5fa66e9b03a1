-- An alternative that was out comes back by its own events.
use Rattle.std.specs.Prelude.{◌≡◌, ◌⊎◌, ℕ, Bool, true, false}
use Rattle.hand_out_laws.specs.HandedBack.{gives_back}
use Rattle.public_tree.specs.AnsweringAtOnce.{run_events}
use Rattle.tree_core.specs.Histories.{History, state_of, with_event, with_events}
use Rattle.tree_model.specs.Events.{Event, Claim, Nodes, Empty, Collected, Lost, Suspend, Resume, Prune, Answer, Stop}
use Rattle.tree_model.specs.Levels.{Place}

-- by one
pub record IsGivenBackOnce (old new : History) (a : Place) : Type 0 where
  pub back : Event
  pub noted : new ≡ with_event back old
  pub gives : gives_back a back ≡ true

-- by three, where its run ends in an answer over so many recoveries alone: it comes back as the run becomes public; the answer goes
-- out to its worker, and comes back as it is taken
pub record IsAnsweredBack (old new : History) (a : Place) : Type 0 where
  pub worker : ℕ
  pub inferences : ℕ
  pub recoveries : ℕ
  pub noted : new ≡ with_events (run_events (state_of old).next worker a inferences recoveries) old

abbrev pub IsGivenBack : History → History → Place → Type 0
IsGivenBack old new a = IsGivenBackOnce old new a ⊎ IsAnsweredBack old new a

-- the events that leave the world and the queries: all but what is taken at the front
abbrev pub leaves_world : Event → Bool
leaves_world (Claim w a) = true
leaves_world (Resume w a) = true
leaves_world (Suspend w a frozen) = true
leaves_world (Nodes w a k sizes) = true
leaves_world (Empty w a k) = true
leaves_world (Collected w a k) = true
leaves_world (Lost w a) = true
leaves_world (Prune w a) = true
leaves_world (Answer w a frozen) = false
leaves_world (Stop w) = true

-- by one of these
pub record IsGivenBackAlone (old new : History) (a : Place) : Type 0 where
  pub back : Event
  pub noted : new ≡ with_event back old
  pub gives : gives_back a back ≡ true
  pub alone : leaves_world back ≡ true

-- the same job, within the same bounds
pub record IsSameJob (old new : History) : Type 0 where
  pub job : new.job ≡ old.job
  pub budget : new.budget ≡ old.budget
  pub window : new.window ≡ old.window
