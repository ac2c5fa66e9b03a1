-- What has come of an alternative at the front is brought to its end.
use Rattle.std.specs.Prelude.{◌≡◌, ℕ, true, false, Option, Some, is_some}
use Rattle.au_term.specs.Term.{Term}
use Rattle.public_tree.specs.PublicTrees.{IsItsGate, is_going}
use Rattle.public_tree.specs.declared.answering.Answering.TheVariants.{Taken, NotLeftmost, HasEnded}
use Rattle.run_model.specs.Machine.Entries.{EndEntry}
use Rattle.task_world.specs.FrontSteps.{MayClose, front_event}
use Rattle.task_world.specs.declared.step.FrontStep.{FrontStep}
use Rattle.task_world.specs.declared.step.FrontStep.TheVariants.{Done, Closes}
use Rattle.tree_core.specs.Histories.{TreeView, state_of, with_event}
use Rattle.tree_model.specs.Events.{Suspend}
use Rattle.tree_model.specs.Legality.{taken_at}
use Rattle.tree_model.specs.Levels.{Place, Spot}
use Rattle.tree_model.specs.Nodes.{WorldGate}
use Rattle.tree_model.specs.TreeStates.{TreeState}

-- it is still out, in a tree that goes on
pub record IsOutStill (v : TreeView) (w : ℕ) (a : Place) : Type 0 where
  pub out : is_some (taken_at w a (state_of v.history)) ≡ true
  pub going : is_going (state_of v.history) ≡ true

-- it was taken, or has yet to wait or to close
abbrev pub IsStepOpen : TreeView → ℕ → Place → FrontStep → Type 0
IsStepOpen v w a (Done Taken) = Unit {0}
IsStepOpen v w a (Done NotLeftmost) = IsOutStill v w a × IsItsGate WorldGate w a (state_of v.history)
IsStepOpen v w a (Done HasEnded) = ⊥
IsStepOpen v w a (Closes closing) = IsOutStill v w a × MayClose v w a closing

-- it waits, or has closed
abbrev pub EndsStep : TreeView → TreeView → ℕ → Place → FrontStep → Type 0
EndsStep old new w a (Done Taken) = new.history ≡ old.history
EndsStep old new w a (Done NotLeftmost) = new.history ≡ with_event (Suspend w a false) old.history
EndsStep old new w a (Done HasEnded) = ⊥
EndsStep old new w a (Closes closing) = new.history ≡ with_event (front_event w a) old.history

-- only closing can fail, and then nothing has happened
abbrev pub FailsStep : TreeView → TreeView → FrontStep → Type 0
FailsStep old new (Done answering) = ⊥
FailsStep old new (Closes closing) = new.history ≡ old.history

-- what is out needs the world next, and is no end of a query
pub record IsTaskAtWorld (w : ℕ) (a : Place) (t : TreeState) : Type 0 where
  pub gate : IsItsGate WorldGate w a t
  pub no_end : (s : Spot) (ball : Option Term) → taken_at w a t ≡ Some s → s.entry ≡ EndEntry ball → ⊥
