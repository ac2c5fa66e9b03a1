-- The engine's steps over a bare floor are those of the private run.
use Rattle.std.specs.Prelude.{◌≡◌, ℕ, suc, ◌≤◌, ◌<◌, List, ◌∷◌, ◌++◌, length, Option, Some}
use Rattle.au_term.specs.Term.{Term}
use Rattle.au_model.specs.Terms.Named.{NamedTerm}
use Rattle.run_model.specs.Goals.Outcomes.{CutToScope, Controls}
use Rattle.run_model.specs.Goals.GoalOutcomes.{outcome_of}
use Rattle.tree_model.specs.Nodes.{CutGate, WorldGate}
use Rattle.tree_model.specs.Floors.{node_of}
use Rattle.region_split.specs.ChoicePoints.{height_of_cut}
use Rattle.region_split.specs.ClauseTrials.{entries_at}
use Rattle.region_split.specs.Regions.{RegionView, entries_of, heights_of, continuation_here, position_entry}
use Rattle.region_split.specs.declared.frame.Position.{Position}
use Rattle.region_control.specs.Ahead.{LiesAhead, ahead_entries}
use Rattle.region_control.specs.Controls.{IsGoalPlace}
use Rattle.region_control.specs.Replies.{LeavesOutcome}
use Rattle.region_control.specs.declared.ahead.Ahead.{Ahead}
use Rattle.region_control.specs.declared.control.GoalPlace.{GoalPlace}
use Rattle.region_control.specs.declared.replies.AfterGoal.{AfterGoal}
use Rattle.region_control.specs.declared.replies.AfterGoal.TheVariants.{At, Failed, Uncaught, AsksWorld}
use Rattle.region_floor.specs.BareFloors.{TopGoal, goal_entries}
use Rattle.region_floor.specs.RegionRuns.{RegionRun, StandsAfter, StandsAtGate, FallsAt, AreOuter}
use Rattle.task_region.specs.BareRegions.{IsOverFloor}

-- what lies ahead stands where the run was
abbrev pub LookingStands : Type 0
LookingStands =
    (r : RegionRun) (k : ℕ) (named : List NamedTerm) (old new : RegionView) (start : Option Position) (a : Ahead)
    → StandsAfter r k (entries_at named old start ++ entries_of named old) → LiesAhead old new start a → StandsAfter r k (ahead_entries named new a)

-- a goal at a place, on top of what the choice points stand for
abbrev pub top_goal : List NamedTerm → RegionView → Term → GoalPlace → TopGoal
top_goal named r goal g =
    record { goal = goal; height = height_of_cut (heights_of named r) g.cut; after = continuation_here named r g.after; below = entries_of named r }

-- a run has come to a goal
pub record ComesToGoal (r : RegionRun) (k : ℕ) (named : List NamedTerm) (here : RegionView) (goal : Term) (g : GoalPlace) : Type 0 where
  pub clauses : r.clauses ≡ here.text.clauses
  pub outer : AreOuter r
  pub over : IsOverFloor (length r.levels) named here
  pub place : IsGoalPlace here g
  pub stands : StandsAfter r k (goal_entries (top_goal named here goal g))

-- what the engine leaves of it: the run one inference later, a ball at its gate, or a goal of the world at its gate
abbrev pub StandsBy : RegionRun → ℕ → List NamedTerm → RegionView → TopGoal → AfterGoal → Type 0
StandsBy r k named new t (At p) = StandsAfter r (suc k) (position_entry named new p ∷ entries_of named new)
StandsBy r k named new t Failed = StandsAfter r (suc k) (entries_of named new)
StandsBy r k named new t (Uncaught ball) = (b : Term) × FallsAt r k t b (Some ball.value)
StandsBy r k named new t AsksWorld = StandsAtGate r k (goal_entries t) WorldGate

-- where the goal is no cut to the floor
abbrev pub InferenceStands : Type 0
InferenceStands =
    (r : RegionRun) (k : ℕ) (named : List NamedTerm) (old new : RegionView) (goal : Term) (g : GoalPlace) (after : AfterGoal) → ComesToGoal r k named old goal g
    → (outcome_of old.text.clauses goal old.store.now.next ≡ Controls CutToScope → length r.levels ≤ g.cut)
    → LeavesOutcome old new (outcome_of old.text.clauses goal old.store.now.next) g after → StandsBy r k named new (top_goal named old goal g) after

-- where it is one, the run is at its gate
abbrev pub FloorCutStops : Type 0
FloorCutStops =
    (r : RegionRun) (k : ℕ) (named : List NamedTerm) (here : RegionView) (goal : Term) (g : GoalPlace) → ComesToGoal r k named here goal g
    → outcome_of here.text.clauses goal here.store.now.next ≡ Controls CutToScope → g.cut < length r.levels
    → StandsAtGate r k (goal_entries (top_goal named here goal g)) (CutGate (node_of r.levels g.cut))
