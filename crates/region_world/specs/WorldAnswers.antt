-- What goals of the world come to, as it is told in a region (ISO/IEC 13211-1, 7.7.7).
use Rattle.std.specs.Prelude.{◌≡◌, ℕ, List, [], map}
use Rattle.au_term.specs.Term.{Term}
use Rattle.clause_compile.specs.declared.event.Effect.{Effect}
use Rattle.effect_gate.specs.Effects.{IsReplied}
use Rattle.effect_gate.specs.declared.world.Applied.{Applied}
use Rattle.run_model.specs.Goals.Outcomes.{Reply, Solution, Solutions, Ball, HaltNumber}
use Rattle.run_model.specs.Goals.WorldConstructs.{holds_once}
use Rattle.run_model.specs.Goals.Worlds.{World, world_step}
use Rattle.run_model.specs.Machine.Entries.{solution_entries}
use Rattle.run_model.specs.Machine.Items.{Continuation}
use Rattle.region_split.specs.Regions.{RegionView}
use Rattle.region_split.specs.SolutionTrials.{AreSolutionsHere}
use Rattle.region_split.specs.StackOperations.{solution_here}
use Rattle.region_world.specs.declared.asking.WorldAnswer.{WorldAnswer}
use Rattle.region_world.specs.declared.asking.WorldAnswer.TheVariants as answer

-- an effect has some reply, which the world tells
pub record HasReply (e : Effect) (next : ℕ) (applied : Applied) : Type 0 where
  pub reply : Reply
  pub told : IsReplied e next reply applied

-- these leave what the solutions of a reply leave: the others do not unify
pub record AreOfReply (solutions : List Solution) (reply : Reply) : Type 0 where
  pub all : List Solution
  pub replies : reply ≡ Solutions all
  pub leave : (height : ℕ) (f : Continuation ℕ) → solution_entries height f all ≡ solution_entries height f solutions

-- an answer tells a reply
abbrev pub TellsReply : RegionView → Reply → WorldAnswer → Type 0
TellsReply r reply answer.Went = reply ≡ holds_once
TellsReply r reply answer.Fails = reply ≡ Solutions []
TellsReply r reply (answer.Raised ball) = reply ≡ Ball ball
TellsReply r reply (answer.Halted status) = reply ≡ HaltNumber status
TellsReply r reply (answer.Solutions solutions) = AreSolutionsHere r solutions × AreOfReply (map (solution_here r) solutions) reply

-- some reply
pub record TellsSome (r : RegionView) (told : WorldAnswer) : Type 0 where
  pub reply : Reply
  pub tells : TellsReply r reply told

-- the world is the one after a goal, and the answer tells the goal's reply
pub record AnswersWorldGoal (r : RegionView) (goal : Term) (before after : World) (told : WorldAnswer) : Type 0 where
  pub world : after ≡ (world_step r.text.clauses goal r.store.now.next before).0
  pub reply : TellsReply r (world_step r.text.clauses goal r.store.now.next before).1 told
