-- How many answers an event gives.
use Rattle.std.specs.Prelude.{ℕ, Option, Some, None}
use Rattle.tree_model.specs.Levels.{Spot}
use Rattle.tree_model.specs.FrontGates.{Taken, Continues, Answered, Raises, Halts, QueryEnds, taken_at_front}
use Rattle.tree_model.specs.Events.{Event, Claim, Nodes, Empty, Collected, Lost, Suspend, Resume, Prune, Answer, Stop}
use Rattle.tree_model.specs.TreeStates.{TreeState, leftmost}
use Rattle.tree_model.specs.Effects.{spot_stack}

abbrev pub answers_by : Taken → ℕ
answers_by Answered = 1
answers_by (Continues es) = 0
answers_by (Raises es) = 0
answers_by (Halts k) = 0
answers_by QueryEnds = 0

-- where what is at the front is taken
abbrev pub answers_at : TreeState → Spot → ℕ
answers_at t s = answers_by (taken_at_front t.job.clauses (spot_stack s) t.world).1

abbrev pub answers_first : TreeState → Option Spot → ℕ
answers_first t None = 0
answers_first t (Some s) = answers_at t s

abbrev pub answers_next : TreeState → ℕ
answers_next t = answers_first t (leftmost t)

abbrev pub answers_told : TreeState → Event → ℕ
answers_told t (Answer w a frozen) = answers_next t
answers_told t (Claim w a) = 0
answers_told t (Nodes w a k sizes) = 0
answers_told t (Empty w a k) = 0
answers_told t (Collected w a k) = 0
answers_told t (Lost w a) = 0
answers_told t (Suspend w a frozen) = 0
answers_told t (Resume w a) = 0
answers_told t (Prune w a) = 0
answers_told t (Stop w) = 0
