-- What goals of the world leave (ISO/IEC 13211-1, 7.7.7).
use Rattle.std.specs.Prelude.{◌≡◌, ℕ, Bool, true, false, List, Some, None}
use Rattle.au_term.specs.Term.{Term}
use Rattle.run_model.specs.Goals.Outcomes.{Reply, Replies, HaltNumber, Solution, Solutions}
use Rattle.run_model.specs.Goals.Worlds.{World, world_step}
use Rattle.run_model.specs.Programs.Databases.{Database, without_clause}
use Rattle.region_split.specs.Regions.{RegionView}
use Rattle.region_control.specs.Replies.{LeavesOutcome}
use Rattle.region_control.specs.declared.control.GoalPlace.{GoalPlace}
use Rattle.region_control.specs.declared.replies.AfterGoal.{AfterGoal}
use Rattle.region_world.specs.declared.goal.WorldReply.{WorldReply}
use Rattle.region_world.specs.declared.goal.WorldReply.TheVariants.{Goes, Halted}

-- solutions take the place of their goal
abbrev pub LeavesSolutions : RegionView → RegionView → List Solution → GoalPlace → AfterGoal → Type 0
LeavesSolutions old new solutions g after = LeavesOutcome old new (Replies (Solutions solutions)) g after

-- a reply takes the place of its goal, or it ends the run
abbrev pub LeavesReply : RegionView → RegionView → Reply → GoalPlace → WorldReply → Type 0
LeavesReply old new reply g (Goes after) = LeavesOutcome old new (Replies reply) g after
LeavesReply old new reply g (Halted status) = reply ≡ HaltNumber status

-- the world is the one after a goal, and the goal's reply takes its place
pub record TakesWorldGoal (old new : RegionView) (goal : Term) (g : GoalPlace) (before after : World) (left : WorldReply) : Type 0 where
  pub world : after ≡ (world_step old.text.clauses goal old.store.now.next before).0
  pub reply : LeavesReply old new (world_step old.text.clauses goal old.store.now.next before).1 g left

-- the clause of a number is gone from the world where it was there
abbrev pub RemovesClause : ℕ → World → World → Bool → Type 0
RemovesClause number old new true = (db : Database) × (without_clause number old.database ≡ Some db) × (new ≡ record old { database = db })
RemovesClause number old new false = (without_clause number old.database ≡ None) × (new ≡ old)
