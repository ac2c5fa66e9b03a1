-- Goals that ask the world, and the effects for which they ask.
use Rattle.std.specs.Prelude.{◌≡◌, ℕ, false, List, codes}
use Rattle.au_term.specs.Term.{Term, Terms, end, more, arguments, argument_count}
use Rattle.au_model.specs.Terms.Forms.{name_of}
use Rattle.run_model.specs.Goals.GoalOutcomes.{outcome_of}
use Rattle.run_model.specs.Goals.Outcomes.{AskWorld}
use Rattle.run_model.specs.Goals.Worlds.{is_world_goal}
use Rattle.clause_compile.specs.declared.event.Effect.{Effect}
use Rattle.clause_compile.specs.declared.event.Effect.TheVariants as effect
use Rattle.region_split.specs.Regions.{RegionView}

-- a goal that asks the world, at the next number of a region
pub record AsksWorldIn (r : RegionView) (goal : Term) : Type 0 where
  pub asked : Term
  pub asks : outcome_of r.text.clauses goal r.store.now.next ≡ AskWorld asked

-- a goal of this name and with these arguments
abbrev pub IsGoalOf : List ℕ → Terms → Term → Type 0
IsGoalOf name ts goal = (name_of goal ≡ name) × (arguments goal ≡ ts)

-- the effect for which a goal asks the world: by its name and its arguments, or the call of a procedure
abbrev pub AsksWorld : Term → Effect → Type 0
AsksWorld goal (effect.Write t) = IsGoalOf (codes "write") (more t end) goal
AsksWorld goal (effect.Writeq t) = IsGoalOf (codes "writeq") (more t end) goal
AsksWorld goal (effect.WriteCanonical t) = IsGoalOf (codes "write_canonical") (more t end) goal
AsksWorld goal effect.Nl = IsGoalOf (codes "nl") end goal
AsksWorld goal (effect.PutChar t) = IsGoalOf (codes "put_char") (more t end) goal
AsksWorld goal (effect.Asserta t) = IsGoalOf (codes "asserta") (more t end) goal
AsksWorld goal (effect.Assertz t) = IsGoalOf (codes "assertz") (more t end) goal
AsksWorld goal (effect.Retract t) = IsGoalOf (codes "retract") (more t end) goal
AsksWorld goal (effect.Abolish t) = IsGoalOf (codes "abolish") (more t end) goal
AsksWorld goal (effect.Clause t u) = IsGoalOf (codes "clause") (more t (more u end)) goal
AsksWorld goal (effect.Op t u v) = IsGoalOf (codes "op") (more t (more u (more v end))) goal
AsksWorld goal (effect.CurrentOp t u v) = IsGoalOf (codes "current_op") (more t (more u (more v end))) goal
AsksWorld goal effect.Halt = IsGoalOf (codes "halt") end goal
AsksWorld goal (effect.HaltWith t) = IsGoalOf (codes "halt") (more t end) goal
AsksWorld goal (effect.Call t) = (t ≡ goal) × (is_world_goal (name_of goal) (argument_count goal) ≡ false)
AsksWorld goal e = ⊥
