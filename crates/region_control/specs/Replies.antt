-- What goals come to in a region (ISO/IEC 13211-1, 7.7 and 7.8).
use Rattle.std.specs.Prelude.{◌≡◌, List, [], ◌∷◌, Some}
use Rattle.au_model.specs.Terms.Named.{NamedTerm}
use Rattle.run_model.specs.Goals.Outcomes.{Outcome, Replies, Solutions, Ball, HaltNumber, Controls, AskWorld}
use Rattle.run_model.specs.Machine.Entries.{Entry, EndEntry}
use Rattle.run_model.specs.Machine.Heights.{after_reply, after_control}
use Rattle.region_split.specs.ChoicePoints.{height_of_cut}
use Rattle.region_split.specs.Regions.{RegionView, entries_of, heights_of, continuation_here, position_entry, IsPositionIn}
use Rattle.region_control.specs.declared.control.GoalPlace.{GoalPlace}
use Rattle.region_control.specs.declared.replies.AfterGoal.{AfterGoal}
use Rattle.region_control.specs.declared.replies.AfterGoal.TheVariants.{At, Failed, Uncaught, AsksWorld}

-- these are the entries now
abbrev pub Leaves : (List NamedTerm → List Entry) → RegionView → AfterGoal → Type 0
Leaves entries new (At p) = ((named : List NamedTerm) → entries named ≡ position_entry named new p ∷ entries_of named new) × IsPositionIn new p
Leaves entries new Failed = (named : List NamedTerm) → entries named ≡ entries_of named new
Leaves entries new (Uncaught ball) = (named : List NamedTerm) → entries named ≡ EndEntry (Some ball.value) ∷ []
Leaves entries new AsksWorld = ⊥

-- what takes the place of a goal is what it comes to; where it asks the world, nothing has changed, and the world alone halts
abbrev pub LeavesOutcome : RegionView → RegionView → Outcome → GoalPlace → AfterGoal → Type 0
LeavesOutcome old new (Replies (Solutions ss)) g after = Leaves (λ named. after_reply (Solutions ss) (continuation_here named old g.after) (entries_of named old)) new after
LeavesOutcome old new (Replies (Ball ball)) g after = Leaves (λ named. after_reply (Ball ball) (continuation_here named old g.after) (entries_of named old)) new after
LeavesOutcome old new (Replies (HaltNumber k)) g after = ⊥
LeavesOutcome old new (Controls form) g after = Leaves (λ named. after_control form (height_of_cut (heights_of named old) g.cut) (continuation_here named old g.after) (entries_of named old)) new after
LeavesOutcome old new (AskWorld goal) g after = (after ≡ AsksWorld) × (new ≡ old)
